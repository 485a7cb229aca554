use Rattle.std.proofs.lemmas.Grind.{common_steps}
use Rattle.std.proofs.Common.{arith}
use Rattle.cip_model.proofs.rays.keeps_wholes.Goals as goal

pub loop-at-preserved : goal.loop-at-preserved
loop-at-preserved c = grind (arith, common_steps)

pub returns : goal.returns
returns c = grind (arith, common_steps)

pub returns-then-ne : goal.returns-then-ne
returns-then-ne c = grind (arith, common_steps)

pub bounds-ray-at : goal.bounds-ray-at
bounds-ray-at c = grind (arith, common_steps)

pub bounds-whole-at : goal.bounds-whole-at
bounds-whole-at c = grind (arith, common_steps)

pub offset_bounds-ray-at : goal.offset_bounds-ray-at
offset_bounds-ray-at c = grind (arith, common_steps)
