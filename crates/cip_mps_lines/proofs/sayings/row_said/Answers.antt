use Rattle.std.proofs.lemmas.Grind.{common_steps}
use Rattle.std.proofs.Common.{arith}
use Rattle.cip_mps_lines.proofs.sayings.row_said.Goals as goal

pub returns-in-len2 : goal.returns-in-len2
returns-in-len2 c = grind (arith, common_steps)

pub bounds-words-0 : goal.bounds-words-0
bounds-words-0 c = grind (arith, common_steps)

pub bounds-words-1 : goal.bounds-words-1
bounds-words-1 c = grind (arith, common_steps)

pub returns-in_default : goal.returns-in_default
returns-in_default c = grind (arith, common_steps)
