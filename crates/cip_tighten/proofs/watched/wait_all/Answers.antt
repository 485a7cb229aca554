use Rattle.std.proofs.lemmas.Grind.{common_steps}
use Rattle.std.proofs.Common.{arith}
use Rattle.cip_tighten.proofs.watched.wait_all.Goals as goal

pub offset_bounds-rows-number-index : goal.offset_bounds-rows-number-index
offset_bounds-rows-number-index c = grind (arith, common_steps)

pub get_mut-requires : goal.get_mut-requires
get_mut-requires c = grind (arith, common_steps)
