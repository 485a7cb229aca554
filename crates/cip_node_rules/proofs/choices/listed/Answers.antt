use Rattle.std.proofs.lemmas.Grind.{common_steps}
use Rattle.std.proofs.Common.{arith}
use Rattle.cip_node_rules.proofs.choices.listed.Goals as goal

pub overflow_cast-result-else-count-columns : goal.overflow_cast-result-else-count-columns
overflow_cast-result-else-count-columns c = grind (arith, common_steps)

pub overflow_cast-result : goal.overflow_cast-result
overflow_cast-result c = grind (arith, common_steps)

pub returns-then-count-columns : goal.returns-then-count-columns
returns-then-count-columns c = grind (arith, common_steps)

pub returns-else-count-columns : goal.returns-else-count-columns
returns-else-count-columns c = grind (arith, common_steps)
