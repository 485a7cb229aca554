use Rattle.std.proofs.lemmas.Grind.{common_steps}
use Rattle.std.proofs.Common.{arith}
use Rattle.cip_model.proofs.rays.keeps_bounds.Goals as goal

pub loop-at-preserved : goal.loop-at-preserved
loop-at-preserved c = grind (arith, common_steps)

pub returns-then-not-may_change : goal.returns-then-not-may_change
returns-then-not-may_change c = grind (arith, common_steps)

pub returns : goal.returns
returns c = grind (arith, common_steps)

pub bounds-ray-at : goal.bounds-ray-at
bounds-ray-at c = grind (arith, common_steps)

pub offset_bounds-ray-at : goal.offset_bounds-ray-at
offset_bounds-ray-at c = grind (arith, common_steps)

pub bounds-bounds-at : goal.bounds-bounds-at
bounds-bounds-at c = grind (arith, common_steps)

pub offset_bounds-bounds-at : goal.offset_bounds-bounds-at
offset_bounds-bounds-at c = grind (arith, common_steps)
