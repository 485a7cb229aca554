use Rattle.std.proofs.lemmas.Grind.{common_steps}
use Rattle.std.proofs.Common.{arith}
use Rattle.cip_tighten.proofs.shifts.place_of.Goals as goal

pub get-requires-2 : goal.get-requires-2
get-requires-2 c = grind (arith, common_steps)

pub get-requires : goal.get-requires
get-requires c = grind (arith, common_steps)

pub get-sides-requires : goal.get-sides-requires
get-sides-requires c = grind (arith, common_steps)
