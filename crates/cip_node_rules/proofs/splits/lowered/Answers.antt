use Rattle.std.proofs.lemmas.Grind.{common_steps}
use Rattle.std.proofs.Common.{arith}
use Rattle.cip_node_rules.proofs.splits.lowered.Goals as goal

pub returns-else-at-top : goal.returns-else-at-top
returns-else-at-top c = grind (arith, common_steps)

pub returns-then-at-top : goal.returns-then-at-top
returns-then-at-top c = grind (arith, common_steps)

pub overflow_sub-result : goal.overflow_sub-result
overflow_sub-result c = grind (arith, common_steps)

pub returns-in-None : goal.returns-in-None
returns-in-None c = grind (arith, common_steps)
