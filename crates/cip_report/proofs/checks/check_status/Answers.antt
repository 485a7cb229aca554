use Rattle.std.proofs.lemmas.Grind.{common_steps}
use Rattle.std.proofs.Common.{arith}
use Rattle.cip_report.proofs.checks.check_status.Goals as goal

pub returns-in_default : goal.returns-in_default
returns-in_default c = grind (arith, common_steps)

pub returns-in-Wide : goal.returns-in-Wide
returns-in-Wide c = grind (arith, common_steps)

pub returns-in-Feasible : goal.returns-in-Feasible
returns-in-Feasible c = grind (arith, common_steps)
