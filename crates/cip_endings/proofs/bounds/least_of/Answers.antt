use Rattle.std.proofs.lemmas.Grind.{common_steps}
use Rattle.std.proofs.Common.{arith}
use Rattle.cip_endings.proofs.bounds.least_of.Goals as goal

pub returns-in-Some-Some : goal.returns-in-Some-Some
returns-in-Some-Some c = grind (arith, common_steps)

pub returns-in-Some-None : goal.returns-in-Some-None
returns-in-Some-None c = grind (arith, common_steps)

pub returns-in-None-default : goal.returns-in-None-default
returns-in-None-default c = grind (arith, common_steps)
