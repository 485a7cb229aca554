use Rattle.std.proofs.lemmas.Grind.{common_steps}
use Rattle.std.proofs.Common.{arith}
use Rattle.cip_basis.proofs.lists.put_at.Goals as goal

pub get_mut-requires : goal.get_mut-requires
get_mut-requires g c = grind (arith, common_steps)
