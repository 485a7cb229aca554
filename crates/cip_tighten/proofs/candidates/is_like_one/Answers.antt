use Rattle.std.proofs.lemmas.Grind.{common_steps}
use Rattle.std.proofs.Common.{arith}
use Rattle.cip_tighten.proofs.candidates.is_like_one.Goals as goal

pub offset_bounds-picked-other-index : goal.offset_bounds-picked-other-index
offset_bounds-picked-other-index c = grind (arith, common_steps)

pub get-requires-in-loop-other : goal.get-requires-in-loop-other
get-requires-in-loop-other c = grind (arith, common_steps)

pub get-requires : goal.get-requires
get-requires c = grind (arith, common_steps)
