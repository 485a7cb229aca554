use Rattle.std.proofs.Common.{ap, sym, ◌∙◌, refl}
use Rattle.cip_rational.specs.Rational.{◌+ℚ◌}
use Rattle.cip_rational.proofs.Rational.Ring.{sub_is}
use Rattle.cip_rational.specs.Range.{sum_overflows, difference_overflows}
use Rattle.cip_frac.proofs.fraction.Frac.sub.Goals as goal

pub returns-in-Some : goal.returns-in-Some
unfolding difference_overflows
returns-in-Some c = (
  ap (λ y. sum_overflows c.args.self y) (sym c.neg.ensures) ∙ c.in-Some.ensures.0,
  c.in-Some.ensures.1 ∙ ap (λ y. c.args.self +ℚ y) c.neg.ensures ∙ sym (sub_is c.args.self c.args.other),
)

pub returns-in-None : goal.returns-in-None
unfolding difference_overflows
returns-in-None c =
    (ap (λ y. sum_overflows c.args.self y) (sym c.neg.ensures) ∙ c.in-None.ensures, refl)
