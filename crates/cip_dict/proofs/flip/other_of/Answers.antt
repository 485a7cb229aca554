use Rattle.std.proofs.lemmas.Grind.{common_steps}
use Rattle.std.proofs.Common.{arith}
use Rattle.cip_dict.proofs.flip.other_of.Goals as goal

pub returns-in-Some-Zero : goal.returns-in-Some-Zero
returns-in-Some-Zero c = grind (arith, common_steps)

pub returns-in-Some-High : goal.returns-in-Some-High
returns-in-Some-High c = grind (arith, common_steps)

pub returns-in-Some-Low : goal.returns-in-Some-Low
returns-in-Some-Low c = grind (arith, common_steps)

pub returns-in-None : goal.returns-in-None
returns-in-None c = grind (arith, common_steps)
