use Rattle.std.proofs.lemmas.Grind.{common_steps}
use Rattle.std.proofs.Common.{arith}
use Rattle.cip_node_rules.proofs.values.rounded_bound.Goals as goal

pub returns-then-are_whole : goal.returns-then-are_whole
returns-then-are_whole c = grind (arith, common_steps)

pub returns-else-are_whole : goal.returns-else-are_whole
returns-else-are_whole c = grind (arith, common_steps)
