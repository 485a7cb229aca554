-- Whole fractions compare as their numerators do.
use Rattle.std.proofs.Common.{◌≡◌, int_lt, not, Bool, true, false, refl, sym, ap, ap₂, ◌∙◌, lit<}
use Rattle.cip_rational.specs.Rational.{ℚ, le_test, lt_test, ratio, numerator, denominator, is_ratio}
use Rattle.cip_rational.proofs.Rational.Ratio.{ratio-lt_test}
use Rattle.cip_rational.proofs.Integers.{times_one}

pub whole_below : (a b : ℚ) → denominator a ≡ 1 → denominator b ≡ 1 → int_lt (numerator a) (numerator b) ≡ lt_test a b
whole_below a b da db =
    let x : a ≡ ratio (numerator a) 1 = sym (is_ratio a) ∙ ap (ratio (numerator a)) da in
    let y : b ≡ ratio (numerator b) 1 = sym (is_ratio b) ∙ ap (ratio (numerator b)) db in
    sym (ap₂ lt_test x y ∙ ratio-lt_test (numerator b) (numerator a) 1 1 (lit< tt) (lit< tt) ∙ ap₂ int_lt (times_one (numerator a)) (times_one (numerator b)))

twice : (t : Bool) → not (not t) ≡ t
twice true = refl
twice false = refl

pub not_below : (a b : ℚ) → not (lt_test b a) ≡ le_test a b
unfolding lt_test
not_below a b = twice (le_test a b)
