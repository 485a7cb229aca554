use Rattle.std.proofs.lemmas.Grind.{common_steps}
use Rattle.std.proofs.Common.{arith}
use Rattle.cip_basis.proofs.elimination.Elimination.advance.Goals as goal

pub offset_bounds-item-items-item-index : goal.offset_bounds-item-items-item-index
offset_bounds-item-items-item-index c = grind (arith, common_steps)

pub overflow_cast-pivot : goal.overflow_cast-pivot
overflow_cast-pivot c = grind (arith, common_steps)

pub overflow_cast-row : goal.overflow_cast-row
overflow_cast-row c = grind (arith, common_steps)

pub get-requires : goal.get-requires
get-requires c = grind (arith, common_steps)
