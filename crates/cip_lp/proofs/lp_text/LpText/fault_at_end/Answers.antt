use Rattle.std.proofs.lemmas.Grind.{common_steps}
use Rattle.std.proofs.Common.{arith}
use Rattle.cip_lp.proofs.lp_text.LpText.fault_at_end.Goals as goal

pub overflow_add-result : goal.overflow_add-result
overflow_add-result c = grind (arith, common_steps)

pub returns-clause-fault : goal.returns-clause-fault
returns-clause-fault c = grind (arith, common_steps)

pub returns-then-is_some-clause-fault : goal.returns-then-is_some-clause-fault
returns-then-is_some-clause-fault c = grind (arith, common_steps)

pub returns-clause-kinds : goal.returns-clause-kinds
returns-clause-kinds c = grind (arith, common_steps)

pub returns-then-is_some-clause-kinds : goal.returns-then-is_some-clause-kinds
returns-then-is_some-clause-kinds c = grind (arith, common_steps)
