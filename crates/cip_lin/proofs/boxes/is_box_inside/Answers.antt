use Rattle.std.proofs.lemmas.Grind.{common_steps}
use Rattle.std.proofs.Common.{arith}
use Rattle.cip_lin.proofs.boxes.is_box_inside.Goals as goal

pub returns-then-not-is_inside : goal.returns-then-not-is_inside
returns-then-not-is_inside c = grind (arith, common_steps)

pub loop-at-preserved : goal.loop-at-preserved
loop-at-preserved c = grind (arith, common_steps)

pub returns : goal.returns
returns c = grind (arith, common_steps)

pub bounds-outer-at : goal.bounds-outer-at
bounds-outer-at c = grind (arith, common_steps)

pub bounds-own-at : goal.bounds-own-at
bounds-own-at c = grind (arith, common_steps)

pub offset_bounds-outer-at : goal.offset_bounds-outer-at
offset_bounds-outer-at c = grind (arith, common_steps)

pub offset_bounds-own-at : goal.offset_bounds-own-at
offset_bounds-own-at c = grind (arith, common_steps)
