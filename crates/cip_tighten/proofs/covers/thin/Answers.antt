use Rattle.std.proofs.lemmas.Grind.{common_steps}
use Rattle.std.proofs.Common.{arith}
use Rattle.cip_tighten.proofs.covers.thin.Goals as goal

pub offset_bounds-pick-items-pick-index : goal.offset_bounds-pick-items-pick-index
offset_bounds-pick-items-pick-index c = grind (arith, common_steps)
