-- The laws of lowest terms.
use native.Mathlib.Nat.{div-one, one-dvd, ℕ_set}
use native.Mathlib.Bridge.{le_prop}
use borrow.Author.Differences.{up, down, neg_is, quot_is, abs_is, same_in}
use Rattle.std.proofs.Common.{ℤ, pos, negsuc, ◌≡◌, ℕ, suc, ◌/◌, ◌<◌, neg_ℤ, int_div, unsigned_abs, sym, ap, ap₂, ◌∙◌, subst, arith, zero-lt-suc}
use Rattle.std.specs.Int.{IsGcd}
use Rattle.std.proofs.lemmas.Nat.Gcd.{IsGcd-swap}
use Rattle.cip_rational.specs.Gcd.{gcd, gcd_lem}
use Rattle.cip_rational.proofs.Gcd.{gcd_unique}
use Rattle.cip_rational.specs.Fraction.{rational_ind}
use Rattle.cip_rational.specs.OnFractions.{over, over_is, parts_apart, lowest-pos}
use Rattle.cip_rational.proofs.OnFractions.{lowest-coprime}
use Rattle.cip_rational.specs.Rational.{ℚ, ratio, integer, negate, inverse, numerator, denominator, ratio_of, is_ratio}
use Rattle.cip_rational.proofs.Rational.Ratio.{ratio-negate}

pub denominator-pos : (q : ℚ) → 0 < denominator q
unfolding denominator
denominator-pos = rational_ind (λ q. 0 < denominator q) (λ q. le_prop) lowest-pos

-- numerator and denominator have nothing in common
pub lowest_terms : (q : ℚ) → gcd (unsigned_abs (numerator q)) (denominator q) ≡ 1
unfolding numerator denominator
lowest_terms = rational_ind (λ q. gcd (unsigned_abs (numerator q)) (denominator q) ≡ 1) (λ q. ℕ_set _ _) lowest-coprime

pub IsGcd-lowest_terms : (q : ℚ) → IsGcd (unsigned_abs (numerator q)) (denominator q) 1
IsGcd-lowest_terms q = subst (IsGcd (unsigned_abs (numerator q)) (denominator q)) (lowest_terms q) (gcd_lem (unsigned_abs (numerator q)) (denominator q))

-- an integer is what its two parts are
over_parts : (z : ℤ) (d : ℕ) (h : 0 < d) → over (record { up = up z; down = down z; den = d; positive = h }) ≡ z
over_parts z d h = same_in _ _ (omega (arith, over_is (record { up = up z; down = down z; den = d; positive = h }), parts_apart z))

-- a ratio is brought to lowest terms by the greatest common divisor
module _ (z : ℤ) (d : ℕ) (h : 0 < d) where
  pub numerator-ratio : numerator (ratio z d) ≡ int_div z (pos (gcd (unsigned_abs z) d))
  unfolding numerator
  numerator-ratio = rw (ratio_of z d h) (ap (λ w. int_div w (pos (gcd (unsigned_abs w) d))) (over_parts z d h))

  pub denominator-ratio : denominator (ratio z d) ≡ d / gcd (unsigned_abs z) d
  unfolding denominator
  denominator-ratio = rw (ratio_of z d h) (ap (λ w. d / gcd (unsigned_abs w) d) (over_parts z d h))

  module _ (g : IsGcd (unsigned_abs z) d 1) where
    pub numerator_lowest : numerator (ratio z d) ≡ z
    numerator_lowest =
        let e = numerator-ratio in
        let u = gcd_unique _ _ _ g in
        let q = quot_is z 1 in
        e ∙ ap (λ k. int_div z (pos k)) u ∙ same_in _ _ (omega (arith, q, div-one (up z), div-one (down z)))

    pub denominator_lowest : denominator (ratio z d) ≡ d
    denominator_lowest = denominator-ratio ∙ ap (λ k. d / k) (gcd_unique _ _ _ g) ∙ div-one d

pub unsigned_abs-neg : (z : ℤ) → unsigned_abs (neg_ℤ z) ≡ unsigned_abs z
unsigned_abs-neg z = omega (arith, abs_is z, abs_is (neg_ℤ z), neg_is z)

opposite_gcd : (q : ℚ) → IsGcd (unsigned_abs (neg_ℤ (numerator q))) (denominator q) 1
opposite_gcd q = rw (unsigned_abs-neg (numerator q)) (IsGcd-lowest_terms q)

negate_is_ratio : (q : ℚ) → negate q ≡ ratio (neg_ℤ (numerator q)) (denominator q)
negate_is_ratio q = ap negate (sym (is_ratio q)) ∙ ratio-negate (numerator q) (denominator q)

pub numerator-negate : (q : ℚ) → numerator (negate q) ≡ neg_ℤ (numerator q)
numerator-negate q = ap numerator (negate_is_ratio q) ∙ numerator_lowest _ _ (denominator-pos q) (opposite_gcd q)

pub denominator-negate : (q : ℚ) → denominator (negate q) ≡ denominator q
denominator-negate q = ap denominator (negate_is_ratio q) ∙ denominator_lowest _ _ (denominator-pos q) (opposite_gcd q)

-- ---- terms that are lowest are the numerator and the denominator

-- two rationals of the same lowest terms are one
pub same_terms : (p q : ℚ) → numerator p ≡ numerator q → denominator p ≡ denominator q → p ≡ q
same_terms p q n d = sym (is_ratio p) ∙ ap₂ ratio n d ∙ is_ratio q

numerator-integer_gcd : (z : ℤ) → IsGcd (unsigned_abs z) 1 1
numerator-integer_gcd z = (one-dvd (unsigned_abs z), one-dvd 1, λ d p q. q)

pub numerator-integer : (z : ℤ) → numerator (integer z) ≡ z
unfolding integer
numerator-integer z = numerator_lowest z 1 (zero-lt-suc 0) (numerator-integer_gcd z)

pub denominator-integer : (z : ℤ) → denominator (integer z) ≡ 1
unfolding integer
denominator-integer z = denominator_lowest z 1 (zero-lt-suc 0) (numerator-integer_gcd z)

pub integer_inj : (y z : ℤ) → integer y ≡ integer z → y ≡ z
integer_inj y z e = sym (numerator-integer y) ∙ ap numerator e ∙ numerator-integer z

-- the terms of an inverse are those of the number, turned round
module _ (q : ℚ) (k : ℕ) where
  pub inverse-pos : numerator q ≡ pos (suc k) → (numerator (inverse q) ≡ pos (denominator q)) × (denominator (inverse q) ≡ suc k)
  unfolding inverse
  inverse-pos e =
      let g : IsGcd (denominator q) (suc k) 1 = IsGcd-swap _ _ _ (subst (λ z. IsGcd (unsigned_abs z) (denominator q) 1) e (IsGcd-lowest_terms q)) in
      rw e (numerator_lowest (pos (denominator q)) (suc k) (zero-lt-suc k) g, denominator_lowest (pos (denominator q)) (suc k) (zero-lt-suc k) g)

  pub inverse-negsuc : numerator q ≡ negsuc k → (numerator (inverse q) ≡ neg_ℤ (pos (denominator q))) × (denominator (inverse q) ≡ suc k)
  unfolding inverse
  inverse-negsuc e =
      let g : IsGcd (denominator q) (suc k) 1 = IsGcd-swap _ _ _ (subst (λ z. IsGcd (unsigned_abs z) (denominator q) 1) e (IsGcd-lowest_terms q)) in
      let h : IsGcd (unsigned_abs (neg_ℤ (pos (denominator q)))) (suc k) 1 = rw (unsigned_abs-neg (pos (denominator q))) g in
      rw e (numerator_lowest (neg_ℤ (pos (denominator q))) (suc k) (zero-lt-suc k) h, denominator_lowest (neg_ℤ (pos (denominator q))) (suc k) (zero-lt-suc k) h)
