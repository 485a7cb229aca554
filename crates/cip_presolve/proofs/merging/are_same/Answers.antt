use Rattle.std.proofs.lemmas.Grind.{common_steps}
use Rattle.std.proofs.Common.{arith}
use Rattle.cip_presolve.proofs.merging.are_same.Goals as goal

pub returns : goal.returns
returns c = grind (arith, common_steps)

pub bounds-others-at : goal.bounds-others-at
bounds-others-at c = grind (arith, common_steps)

pub bounds-ones-at : goal.bounds-ones-at
bounds-ones-at c = grind (arith, common_steps)

pub offset_bounds-others-at : goal.offset_bounds-others-at
offset_bounds-others-at c = grind (arith, common_steps)

pub offset_bounds-ones-at : goal.offset_bounds-ones-at
offset_bounds-ones-at c = grind (arith, common_steps)

pub loop-at-init : goal.loop-at-init
loop-at-init c = grind (arith, common_steps)

pub loop-at-preserved : goal.loop-at-preserved
loop-at-preserved c = grind (arith, common_steps)

pub returns-in-loop-at : goal.returns-in-loop-at
returns-in-loop-at c = grind (arith, common_steps)
