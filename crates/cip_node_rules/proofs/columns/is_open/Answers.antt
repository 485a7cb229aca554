use Rattle.std.proofs.lemmas.Grind.{common_steps}
use Rattle.std.proofs.Common.{arith}
use Rattle.cip_node_rules.proofs.columns.is_open.Goals as goal

pub returns-then-whole : goal.returns-then-whole
returns-then-whole c = grind (arith, common_steps)

pub returns-else-whole : goal.returns-else-whole
returns-else-whole c = grind (arith, common_steps)
