use Rattle.std.proofs.lemmas.Grind.{common_steps}
use Rattle.std.proofs.Common.{arith}
use Rattle.cip_basis.proofs.systems.System.lower_rests.Goals as goal

pub get-requires : goal.get-requires
get-requires c = grind (arith, common_steps)

pub way_back_beside_following-self : goal.way_back_beside_following-self
way_back_beside_following-self c = grind (arith, common_steps)
