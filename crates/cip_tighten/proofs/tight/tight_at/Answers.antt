use Rattle.std.proofs.lemmas.Grind.{common_steps}
use Rattle.std.proofs.Common.{arith}
use Rattle.cip_tighten.proofs.tight.tight_at.Goals as goal

pub get-requires : goal.get-requires
get-requires c = grind (arith, common_steps)

pub get-requires-2 : goal.get-requires-2
get-requires-2 c = grind (arith, common_steps)
