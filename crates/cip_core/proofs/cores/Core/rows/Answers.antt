use Rattle.std.proofs.lemmas.Grind.{common_steps}
use Rattle.std.proofs.Common.{arith}
use Rattle.cip_core.proofs.cores.Core.rows.Goals as goal

pub returns-clause-lent : goal.returns-clause-lent
returns-clause-lent c = grind (arith, common_steps)

pub returns-clause-whole : goal.returns-clause-whole
returns-clause-whole c = grind (arith, common_steps)
