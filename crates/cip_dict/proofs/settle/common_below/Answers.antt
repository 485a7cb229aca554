use Rattle.std.proofs.lemmas.Grind.{common_steps}
use Rattle.std.proofs.Common.{arith}
use Rattle.cip_dict.proofs.settle.common_below.Goals as goal

pub with_denominator-below-requires-clause-positive : goal.with_denominator-below-requires-clause-positive
with_denominator-below-requires-clause-positive c = grind (arith, common_steps)

pub returns-clause-positive : goal.returns-clause-positive
returns-clause-positive c = grind (arith, common_steps)

pub bounds-entries-at : goal.bounds-entries-at
bounds-entries-at c = grind (arith, common_steps)

pub bounds-entries-at-in-loop-at : goal.bounds-entries-at-in-loop-at
bounds-entries-at-in-loop-at c = grind (arith, common_steps)

pub offset_bounds-entries-at : goal.offset_bounds-entries-at
offset_bounds-entries-at c = grind (arith, common_steps)

pub with_denominator-below-requires-clause-small : goal.with_denominator-below-requires-clause-small
with_denominator-below-requires-clause-small c = grind (arith, common_steps)

pub returns-clause-small : goal.returns-clause-small
returns-clause-small c = grind (arith, common_steps)
