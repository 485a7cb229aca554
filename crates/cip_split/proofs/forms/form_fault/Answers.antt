use Rattle.std.proofs.lemmas.Grind.{common_steps}
use Rattle.std.proofs.Common.{arith}
use Rattle.cip_split.proofs.forms.form_fault.Goals as goal

pub returns-in-Some-first_fractional : goal.returns-in-Some-first_fractional
returns-in-Some-first_fractional c = grind (arith, common_steps)

pub returns-in-None : goal.returns-in-None
returns-in-None c = grind (arith, common_steps)

pub returns-in-Some-first_unknown : goal.returns-in-Some-first_unknown
returns-in-Some-first_unknown c = grind (arith, common_steps)

pub returns-in-Some : goal.returns-in-Some
returns-in-Some c = grind (arith, common_steps)
