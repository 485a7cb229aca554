use Rattle.std.proofs.lemmas.Grind.{common_steps}
use Rattle.std.proofs.Common.{arith}
use Rattle.cip_tighten.proofs.candidates.product_of.Goals as goal

pub get-requires : goal.get-requires
get-requires c = grind (arith, common_steps)

pub get-requires-in-loop : goal.get-requires-in-loop
get-requires-in-loop c = grind (arith, common_steps)
