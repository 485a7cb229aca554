use Rattle.std.proofs.lemmas.Grind.{common_steps}
use Rattle.std.proofs.Common.{arith}
use Rattle.cip_basis.proofs.table.sum_of.Goals as goal

pub offset_bounds-ways-item-index : goal.offset_bounds-ways-item-index
offset_bounds-ways-item-index c = grind (arith, common_steps)
