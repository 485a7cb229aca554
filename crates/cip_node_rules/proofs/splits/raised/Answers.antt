use Rattle.std.proofs.lemmas.Grind.{common_steps}
use Rattle.std.proofs.Common.{arith}
use Rattle.cip_node_rules.proofs.splits.raised.Goals as goal

pub returns-else-at-least : goal.returns-else-at-least
returns-else-at-least c = grind (arith, common_steps)

pub returns-then-at-least : goal.returns-then-at-least
returns-then-at-least c = grind (arith, common_steps)

pub returns-in-None : goal.returns-in-None
returns-in-None c = grind (arith, common_steps)
