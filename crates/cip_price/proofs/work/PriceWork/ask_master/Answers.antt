use Rattle.std.proofs.lemmas.Grind.{common_steps}
use Rattle.std.proofs.Common.{arith}
use Rattle.cip_price.proofs.work.PriceWork.ask_master.Goals as goal

pub returns-clause-kept : goal.returns-clause-kept
returns-clause-kept c = grind (arith, common_steps)

pub returns-clause-answer : goal.returns-clause-answer
returns-clause-answer c = grind (arith, common_steps)

pub master-requires-clause-kept : goal.master-requires-clause-kept
master-requires-clause-kept c = grind (arith, common_steps)

pub master-requires-clause-task : goal.master-requires-clause-task
master-requires-clause-task c = grind (arith, common_steps)

pub returns-clause-lagrange : goal.returns-clause-lagrange
returns-clause-lagrange c = grind (arith, common_steps)

pub returns-clause-scratch : goal.returns-clause-scratch
returns-clause-scratch c = grind (arith, common_steps)

pub returns-clause-best : goal.returns-clause-best
returns-clause-best c = grind (arith, common_steps)
