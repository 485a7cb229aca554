use Rattle.std.proofs.lemmas.Grind.{common_steps}
use Rattle.std.proofs.Common.{arith}
use Rattle.cip_basis.proofs.dual.reachable.Goals as goal

pub offset_bounds-picks-pick-index : goal.offset_bounds-picks-pick-index
offset_bounds-picks-pick-index c = grind (arith, common_steps)
