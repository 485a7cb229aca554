use Rattle.std.proofs.lemmas.Grind.{common_steps}
use Rattle.std.proofs.Common.{arith}
use Rattle.cip_node_rules.proofs.roots.rounded_least.Goals as goal

pub returns-in-Value : goal.returns-in-Value
returns-in-Value c = grind (arith, common_steps)

pub returns-in-NoBound : goal.returns-in-NoBound
returns-in-NoBound c = grind (arith, common_steps)
