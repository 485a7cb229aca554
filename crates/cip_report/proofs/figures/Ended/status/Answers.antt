use Rattle.std.proofs.lemmas.Grind.{common_steps}
use Rattle.std.proofs.Common.{arith}
use Rattle.cip_report.proofs.figures.Ended.status.Goals as goal

pub returns-in-Wide : goal.returns-in-Wide
returns-in-Wide c = grind (arith, common_steps)

pub returns-in-Unbounded : goal.returns-in-Unbounded
returns-in-Unbounded c = grind (arith, common_steps)

pub returns-in-Infeasible : goal.returns-in-Infeasible
returns-in-Infeasible c = grind (arith, common_steps)

pub returns-in-NoMemory : goal.returns-in-NoMemory
returns-in-NoMemory c = grind (arith, common_steps)

pub returns-in-Optimal : goal.returns-in-Optimal
returns-in-Optimal c = grind (arith, common_steps)

pub returns-in-Gap : goal.returns-in-Gap
returns-in-Gap c = grind (arith, common_steps)

pub returns-in-NodeLimit : goal.returns-in-NodeLimit
returns-in-NodeLimit c = grind (arith, common_steps)
