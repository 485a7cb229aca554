use Rattle.std.proofs.lemmas.Grind.{common_steps}
use Rattle.std.proofs.Common.{arith}
use Rattle.cip_report.proofs.writing.choice_word.Goals as goal

pub returns-else-is_on : goal.returns-else-is_on
returns-else-is_on c = grind (arith, common_steps)

pub returns-then-is_on : goal.returns-then-is_on
returns-then-is_on c = grind (arith, common_steps)
