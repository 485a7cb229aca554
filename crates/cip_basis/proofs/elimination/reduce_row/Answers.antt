use Rattle.std.proofs.lemmas.Grind.{common_steps}
use Rattle.std.proofs.Common.{arith}
use Rattle.cip_basis.proofs.elimination.reduce_row.Goals as goal

pub offset_bounds-numbers-item-index : goal.offset_bounds-numbers-item-index
offset_bounds-numbers-item-index c = grind (arith, common_steps)
