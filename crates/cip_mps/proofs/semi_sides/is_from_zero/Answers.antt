use Rattle.std.proofs.lemmas.Grind.{common_steps}
use Rattle.std.proofs.Common.{◌∙◌, ap, arith}
use Rattle.cip_rational.specs.Rational.{le_test}
use Rattle.cip_rational.proofs.Comparisons.{is_le-compare}
use Rattle.cip_mps.proofs.semi_sides.is_from_zero.Goals as goal

pub returns-in-Some : goal.returns-in-Some
returns-in-Some c = rw (c.in-Some.is) (c.le.ensures ∙ is_le-compare _ _ ∙ ap (λ zero. le_test zero c.in-Some.side) c.zero.ensures)

pub returns-in-None : goal.returns-in-None
returns-in-None c = grind (arith, common_steps)
