use Rattle.std.proofs.lemmas.Grind.{common_steps}
use Rattle.std.proofs.Common.{arith}
use Rattle.cip_basis.proofs.rows.number_on.Goals as goal

pub offset_bounds-row-item-index : goal.offset_bounds-row-item-index
offset_bounds-row-item-index c = grind (arith, common_steps)
