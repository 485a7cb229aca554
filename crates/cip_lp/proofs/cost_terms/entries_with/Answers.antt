use Rattle.std.proofs.lemmas.Grind.{common_steps}
use Rattle.std.proofs.Common.{arith}
use Rattle.cip_lp.proofs.cost_terms.entries_with.Goals as goal

pub returns-then-is_zero : goal.returns-then-is_zero
returns-then-is_zero c = grind (arith, common_steps)

pub returns-else-is_zero : goal.returns-else-is_zero
returns-else-is_zero c = grind (arith, common_steps)

pub overflow_add-result : goal.overflow_add-result
overflow_add-result c = grind (arith, common_steps)
