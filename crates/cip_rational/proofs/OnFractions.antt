-- Lemmas on `OnFractions`.
use native.Mathlib.Nat.{eq_of_mul-eq-mul_left, mul-one}
use borrow.Author.Differences.{up, down, abs_is}
use Rattle.std.proofs.Common.{◌≡◌, ◌+◌, ◌*◌, unsigned_abs, sym, ap, ap₂, ◌∙◌, arith}
use Rattle.cip_rational.specs.Gcd.{gcd, gcd-mul}
use Rattle.cip_rational.specs.Fraction.{Fraction}
use Rattle.cip_rational.specs.OnFractions.{over, common, lowest_numerator, lowest_denominator, parts_apart, common-pos, lowest-exact}

-- lowest terms have nothing in common
pub lowest-coprime : (x : Fraction) → gcd (unsigned_abs (lowest_numerator x)) (lowest_denominator x) ≡ 1
lowest-coprime x =
    let e = lowest-exact x in
    let n = lowest_numerator x in
    let a : unsigned_abs (over x) ≡ up (over x) + down (over x) = omega (arith, abs_is (over x), parts_apart (over x)) in
    let b : unsigned_abs n ≡ up n + down n = omega (arith, abs_is n, parts_apart n) in
    let c : common x * unsigned_abs n ≡ unsigned_abs (over x) = omega (arith, a, ap (λ t. common x * t) b, e.0, e.1) in
    let f = gcd-mul (common x) (unsigned_abs n) (lowest_denominator x) (common-pos x) in
    let g : common x ≡ common x * gcd (unsigned_abs n) (lowest_denominator x) = ap₂ gcd (sym c) (sym e.2) ∙ f in
    eq_of_mul-eq-mul_left (common x) (common-pos x) _ _ (sym g ∙ sym (mul-one (common x)))
