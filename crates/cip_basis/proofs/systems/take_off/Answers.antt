use Rattle.std.proofs.lemmas.Grind.{common_steps}
use Rattle.std.proofs.Common.{arith}
use Rattle.cip_basis.proofs.systems.take_off.Goals as goal

pub get_mut-requires : goal.get_mut-requires
get_mut-requires c = grind (arith, common_steps)
