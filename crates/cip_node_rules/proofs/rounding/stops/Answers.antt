use Rattle.std.proofs.lemmas.Grind.{common_steps}
use Rattle.std.proofs.Common.{arith}
use Rattle.cip_node_rules.proofs.rounding.stops.Goals as goal

pub returns-else-not-whole : goal.returns-else-not-whole
returns-else-not-whole c = grind (arith, common_steps)

pub returns-then-not-whole : goal.returns-then-not-whole
returns-then-not-whole c = grind (arith, common_steps)

pub returns-else-ne : goal.returns-else-ne
returns-else-ne c = grind (arith, common_steps)
