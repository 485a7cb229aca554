use Rattle.std.proofs.lemmas.Grind.{common_steps}
use Rattle.std.proofs.Common.{◌∙◌, arith}
use Rattle.cip_rational.proofs.Comparisons.{is_le-compare}
use Rattle.cip_endings.proofs.bounds.is_no_more.Goals as goal

pub returns-in-Some-Some : goal.returns-in-Some-Some
returns-in-Some-Some c = rw (c.in-Some-Some.is-0, c.in-Some-Some.is-1) (c.le.ensures ∙ is_le-compare _ _)

pub returns-in-Some-None : goal.returns-in-Some-None
returns-in-Some-None c = grind (arith, common_steps)

pub returns-in-None-default : goal.returns-in-None-default
returns-in-None-default c = grind (arith, common_steps)
