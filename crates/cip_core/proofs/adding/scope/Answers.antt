use Rattle.std.proofs.lemmas.Grind.{common_steps}
use Rattle.std.proofs.Common.{arith}
use Rattle.cip_core.proofs.adding.scope.Goals as goal

pub returns-then-local : goal.returns-then-local
returns-then-local c = grind (arith, common_steps)

pub returns-else-local : goal.returns-else-local
returns-else-local c = grind (arith, common_steps)
