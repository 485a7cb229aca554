use Rattle.std.proofs.lemmas.Grind.{common_steps}
use Rattle.std.proofs.Common.{arith}
use Rattle.cip_text.proofs.number_text.signed.Goals as goal

pub returns-then-negative : goal.returns-then-negative
returns-then-negative c = grind (arith, common_steps)

pub overflow_sub-result : goal.overflow_sub-result
overflow_sub-result c = grind (arith, common_steps)

pub returns-else-negative : goal.returns-else-negative
returns-else-negative c = grind (arith, common_steps)

pub overflow_cast-result-else-negative : goal.overflow_cast-result-else-negative
overflow_cast-result-else-negative c = grind (arith, common_steps)

pub overflow_cast-result : goal.overflow_cast-result
overflow_cast-result c = grind (arith, common_steps)
