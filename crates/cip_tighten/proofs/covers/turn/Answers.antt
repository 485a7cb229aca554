use Rattle.std.proofs.lemmas.Grind.{common_steps}
use Rattle.std.proofs.Common.{arith}
use Rattle.cip_tighten.proofs.covers.turn.Goals as goal

pub offset_bounds-kept-pick-index : goal.offset_bounds-kept-pick-index
offset_bounds-kept-pick-index c = grind (arith, common_steps)

pub loop-pick-preserved : goal.loop-pick-preserved
loop-pick-preserved c = grind (arith, common_steps)
