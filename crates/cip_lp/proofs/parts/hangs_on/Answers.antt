use Rattle.std.proofs.lemmas.Grind.{common_steps}
use Rattle.std.proofs.Common.{arith}
use Rattle.cip_lp.proofs.parts.hangs_on.Goals as goal

pub returns-in-Some-Opens : goal.returns-in-Some-Opens
returns-in-Some-Opens c = grind (arith, common_steps)

pub returns-in-Some-Subject : goal.returns-in-Some-Subject
returns-in-Some-Subject c = grind (arith, common_steps)

pub returns-in-None-3 : goal.returns-in-None-3
returns-in-None-3 c = grind (arith, common_steps)

pub returns-in-None-2 : goal.returns-in-None-2
returns-in-None-2 c = grind (arith, common_steps)

pub returns-in-None : goal.returns-in-None
returns-in-None c = grind (arith, common_steps)
