use Rattle.std.proofs.lemmas.Grind.{common_steps}
use Rattle.std.proofs.Common.{arith}
use Rattle.cip_basis.proofs.table.put_in.Goals as goal

pub offset_bounds-pivot-item-index : goal.offset_bounds-pivot-item-index
offset_bounds-pivot-item-index c = grind (arith, common_steps)

pub get_mut-requires : goal.get_mut-requires
get_mut-requires c = grind (arith, common_steps)
