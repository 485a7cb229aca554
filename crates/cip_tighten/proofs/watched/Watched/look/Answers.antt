use Rattle.std.proofs.lemmas.Grind.{common_steps}
use Rattle.std.proofs.Common.{arith}
use Rattle.cip_tighten.proofs.watched.Watched.look.Goals as goal

pub bounds-sides-col : goal.bounds-sides-col
bounds-sides-col c = grind (arith, common_steps)

pub offset_bounds-sides-col : goal.offset_bounds-sides-col
offset_bounds-sides-col c = grind (arith, common_steps)

pub get-requires : goal.get-requires
get-requires c = grind (arith, common_steps)
