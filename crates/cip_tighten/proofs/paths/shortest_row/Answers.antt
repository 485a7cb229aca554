use Rattle.std.proofs.lemmas.Grind.{common_steps}
use Rattle.std.proofs.Common.{arith}
use Rattle.cip_tighten.proofs.paths.shortest_row.Goals as goal

pub get-requires-in-loop-number : goal.get-requires-in-loop-number
get-requires-in-loop-number c = grind (arith, common_steps)

pub offset_bounds-number-items-number-index : goal.offset_bounds-number-items-number-index
offset_bounds-number-items-number-index c = grind (arith, common_steps)

pub get-requires : goal.get-requires
get-requires c = grind (arith, common_steps)

pub get-requires-in-loop-number-2 : goal.get-requires-in-loop-number-2
get-requires-in-loop-number-2 c = grind (arith, common_steps)
