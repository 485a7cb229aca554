use Rattle.std.proofs.lemmas.Grind.{common_steps}
use Rattle.std.proofs.Common.{arith}
use Rattle.cip_domain.proofs.changes.is_settled.Goals as goal

pub returns-else-on : goal.returns-else-on
returns-else-on c = grind (arith, common_steps)

pub returns-then-on : goal.returns-then-on
returns-then-on c = grind (arith, common_steps)

pub returns-else-not-is_open : goal.returns-else-not-is_open
returns-else-not-is_open c = grind (arith, common_steps)

pub returns-in-None : goal.returns-in-None
returns-in-None c = grind (arith, common_steps)
