use Rattle.std.proofs.lemmas.Grind.{common_steps}
use Rattle.std.proofs.Common.{arith}
use Rattle.cip_price.proofs.rounds.is_open.Goals as goal

pub returns-then-not-round-2 : goal.returns-then-not-round-2
returns-then-not-round-2 c = grind (arith, common_steps)

pub returns-then-not-round : goal.returns-then-not-round
returns-then-not-round c = grind (arith, common_steps)

pub returns-else-not-round-2 : goal.returns-else-not-round-2
returns-else-not-round-2 c = grind (arith, common_steps)

pub returns-else-not-round : goal.returns-else-not-round
returns-else-not-round c = grind (arith, common_steps)

pub returns-in-Full : goal.returns-in-Full
returns-in-Full c = grind (arith, common_steps)
