use Rattle.std.proofs.lemmas.Grind.{common_steps}
use Rattle.std.proofs.Common.{arith}
use Rattle.cip_dict.proofs.settle.with_denominator.Goals as goal

pub overflow_cast-result : goal.overflow_cast-result
overflow_cast-result c = grind (arith, common_steps)

pub returns-else-multiple-from-clause-small : goal.returns-else-multiple-from-clause-small
returns-else-multiple-from-clause-small c = grind (arith, common_steps)

pub overflow_mul-multiple : goal.overflow_mul-multiple
overflow_mul-multiple c = grind (arith, common_steps)

pub returns-then-multiple-from-clause-positive : goal.returns-then-multiple-from-clause-positive
returns-then-multiple-from-clause-positive c = grind (arith, common_steps)

pub returns-else-multiple-from-clause-positive : goal.returns-else-multiple-from-clause-positive
returns-else-multiple-from-clause-positive c = grind (arith, common_steps)

pub returns-then-multiple-from-clause-small : goal.returns-then-multiple-from-clause-small
returns-then-multiple-from-clause-small c = grind (arith, common_steps)

pub short_common-common-requires : goal.short_common-common-requires
short_common-common-requires c = grind (arith, common_steps)

pub nonzero_div-below : goal.nonzero_div-below
nonzero_div-below c = grind (arith, common_steps)

pub returns-then-d-le1-clause-positive : goal.returns-then-d-le1-clause-positive
returns-then-d-le1-clause-positive c = grind (arith, common_steps)

pub returns-in_default-clause-positive : goal.returns-in_default-clause-positive
returns-in_default-clause-positive c = grind (arith, common_steps)

pub returns-then-d-le1-clause-small : goal.returns-then-d-le1-clause-small
returns-then-d-le1-clause-small c = grind (arith, common_steps)

pub returns-in_default-clause-small : goal.returns-in_default-clause-small
returns-in_default-clause-small c = grind (arith, common_steps)
