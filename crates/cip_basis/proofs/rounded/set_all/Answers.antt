use Rattle.std.proofs.lemmas.Grind.{common_steps}
use Rattle.std.proofs.Common.{arith}
use Rattle.cip_basis.proofs.rounded.set_all.Goals as goal

pub offset_bounds-list-item-index : goal.offset_bounds-list-item-index
offset_bounds-list-item-index c = grind (arith, common_steps)
