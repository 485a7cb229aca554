use Rattle.std.proofs.lemmas.Grind.{common_steps}
use Rattle.std.proofs.Common.{arith}
use Rattle.cip_dict.proofs.settle.number_over.Goals as goal

pub overflow_cast-result : goal.overflow_cast-result
overflow_cast-result c = grind (arith, common_steps)

pub returns : goal.returns
returns c = grind (arith, common_steps)

pub returns-then-d-below : goal.returns-then-d-below
returns-then-d-below c = grind (arith, common_steps)

pub product_of-z-requires-clause-first : goal.product_of-z-requires-clause-first
product_of-z-requires-clause-first c = grind (arith, common_steps)

pub product_of-z-requires-clause-second : goal.product_of-z-requires-clause-second
product_of-z-requires-clause-second c = grind (arith, common_steps)

pub nonzero_div-below : goal.nonzero_div-below
nonzero_div-below c = grind (arith, common_steps)

pub nonzero_rem-below : goal.nonzero_rem-below
nonzero_rem-below c = grind (arith, common_steps)

pub overflow_cast-below : goal.overflow_cast-below
overflow_cast-below c = grind (arith, common_steps)

pub returns-then-unsigned_abs-from : goal.returns-then-unsigned_abs-from
returns-then-unsigned_abs-from c = grind (arith, common_steps)

pub returns-then-below-d-ne0 : goal.returns-then-below-d-ne0
returns-then-below-d-ne0 c = grind (arith, common_steps)
