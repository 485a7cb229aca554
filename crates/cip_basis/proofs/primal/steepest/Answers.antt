use Rattle.std.proofs.lemmas.Grind.{common_steps}
use Rattle.std.proofs.Common.{arith}
use Rattle.cip_basis.proofs.primal.steepest.Goals as goal

pub bounds-item-items-place : goal.bounds-item-items-place
bounds-item-items-place c = grind (arith, common_steps)

pub offset_bounds-item-items-place : goal.offset_bounds-item-items-place
offset_bounds-item-items-place c = grind (arith, common_steps)
