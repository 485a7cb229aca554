use Rattle.std.proofs.lemmas.Grind.{common_steps}
use Rattle.std.proofs.Common.{◌∙◌, arith}
use Rattle.cip_frac.proofs.PassedOn.{is_le-compare}
use Rattle.cip_lin.proofs.boxes.is_at_least.Goals as goal

pub returns-in-Some : goal.returns-in-Some
returns-in-Some c = rw (c.in-Some.is) (c.le.ensures ∙ is_le-compare _ _)

pub returns-in-None : goal.returns-in-None
returns-in-None c = grind (arith, common_steps)
