use Rattle.std.proofs.Common.{ap, sym, ◌∙◌, refl}
use Rattle.cip_rational.specs.Rational.{◌*ℚ◌}
use Rattle.cip_rational.specs.Range.{product_overflows, quotient_overflows}
use Rattle.cip_frac.proofs.fraction.Frac.div.Goals as goal

pub returns-in-Some : goal.returns-in-Some
unfolding quotient_overflows
returns-in-Some c = (
  ap (λ y. product_overflows c.args.self y) (sym c.reciprocal.ensures) ∙ c.in-Some.ensures.0,
  c.in-Some.ensures.1 ∙ ap (λ y. c.args.self *ℚ y) c.reciprocal.ensures,
)

pub returns-in-None : goal.returns-in-None
unfolding quotient_overflows
returns-in-None c =
    (ap (λ y. product_overflows c.args.self y) (sym c.reciprocal.ensures) ∙ c.in-None.ensures, refl)
