use Rattle.std.proofs.lemmas.Grind.{common_steps}
use Rattle.std.proofs.Common.{arith}
use Rattle.cip_model.proofs.checks.broken_row.Goals as goal

pub loop-at-preserved : goal.loop-at-preserved
loop-at-preserved c = grind (arith, common_steps)

pub returns-then-not-contains : goal.returns-then-not-contains
returns-then-not-contains c = grind (arith, common_steps)

pub activity-requires : goal.activity-requires
activity-requires c = grind (arith, common_steps)

pub returns : goal.returns
returns c = grind (arith, common_steps)

pub returns-in_default : goal.returns-in_default
returns-in_default c = grind (arith, common_steps)

pub bounds-rows-at : goal.bounds-rows-at
bounds-rows-at c = grind (arith, common_steps)

pub overflow_cast-number : goal.overflow_cast-number
overflow_cast-number c = grind (arith, common_steps)

pub offset_bounds-rows-at : goal.offset_bounds-rows-at
offset_bounds-rows-at c = grind (arith, common_steps)
