use Rattle.std.proofs.lemmas.Grind.{common_steps}
use Rattle.std.proofs.Common.{arith}
use Rattle.cip_report.proofs.writing.printed.Goals as goal

pub returns-in-Maximize : goal.returns-in-Maximize
returns-in-Maximize c = grind (arith, common_steps)

pub returns-in-Minimize : goal.returns-in-Minimize
returns-in-Minimize c = grind (arith, common_steps)
