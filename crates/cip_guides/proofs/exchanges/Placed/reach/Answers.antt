use Rattle.std.proofs.lemmas.Grind.{common_steps}
use Rattle.std.proofs.Common.{arith}
use Rattle.cip_guides.proofs.exchanges.Placed.reach.Goals as goal

pub overflow_cast-column : goal.overflow_cast-column
overflow_cast-column c = grind (arith, common_steps)

pub get-requires-2 : goal.get-requires-2
get-requires-2 c = grind (arith, common_steps)

pub get-requires : goal.get-requires
get-requires c = grind (arith, common_steps)
