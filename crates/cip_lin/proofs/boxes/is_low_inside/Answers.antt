use Rattle.std.proofs.lemmas.Grind.{common_steps}
use Rattle.std.proofs.Common.{◌∙◌, arith}
use Rattle.cip_frac.proofs.PassedOn.{is_le-compare}
use Rattle.cip_lin.proofs.boxes.is_low_inside.Goals as goal

pub returns-in-Some-Some : goal.returns-in-Some-Some
returns-in-Some-Some c = rw (c.in-Some-Some.is-0, c.in-Some-Some.is-1) (c.le.ensures ∙ is_le-compare _ _)

pub returns-in-None-Some : goal.returns-in-None-Some
returns-in-None-Some c = grind (arith, common_steps)

pub returns-in_default-None : goal.returns-in_default-None
returns-in_default-None c = grind (arith, common_steps)
