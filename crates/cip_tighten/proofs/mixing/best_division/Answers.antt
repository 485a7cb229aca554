use Rattle.std.proofs.lemmas.Grind.{common_steps}
use Rattle.std.proofs.Common.{arith}
use Rattle.cip_tighten.proofs.mixing.best_division.Goals as goal

pub get-requires : goal.get-requires
get-requires c = grind (arith, common_steps)
