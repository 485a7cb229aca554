use Rattle.std.proofs.lemmas.Grind.{common_steps}
use Rattle.std.proofs.Common.{arith}
use Rattle.cip_basis.proofs.dual.worst.Goals as goal

pub bounds-item-items-line : goal.bounds-item-items-line
bounds-item-items-line c = grind (arith, common_steps)

pub offset_bounds-item-items-line : goal.offset_bounds-item-items-line
offset_bounds-item-items-line c = grind (arith, common_steps)
