-- The fraction of two integers.
use Rattle.std.proofs.Common.{◌≡◌, ◌≢◌, ℕ, zero, suc, ◌*◌, ◌/◌, ◌<◌, ◌≤◌, ◌^◌, ℤ, pos, negsuc, neg_ℤ, ◌*ℤ◌, int_lt, unsigned_abs, FitsSigned, Bool, true, false, not, if◌then◌else◌, of_z, sym, ap, ◌∙◌, refl, arith, lit<, ◌⊎◌, inl, inr}
use Rattle.std.specs.Int.{IsGcd, w128}
use mathlib.Core.Bool.{beq}
use borrow.Author.Differences.{up, down, same_in, product_is, false_is_lt, Apart-out}
use Rattle.std.proofs.lemmas.Int.{ints, to_z-of_z}
use Rattle.std.proofs.Math.Nat.{div-mul_cancel, one-mul}
use Rattle.cip_rational.specs.Rational.{◌*ℚ◌, ratio, integer, inverse, numerator, is_ratio}
use Rattle.cip_rational.proofs.Rational.Ratio.{integer_ratio, ratio-mul, ratio-cancel}
use Rattle.cip_rational.proofs.Rational.Lowest.{numerator-integer, denominator-integer, inverse-pos, inverse-negsuc}
use Rattle.cip_rational.specs.Range.{largest, fits_range}
use Rattle.cip_frac.specs.FractionFault.{quotient_of}
use Rattle.cip_frac.specs.LowestTerms.{AreLowest}
use Rattle.cip_frac.proofs.Casts.{kept}
use Rattle.cip_frac.proofs.Divisors.{IsCoprime, coprime_quotients, positive_from_IsGcd}
use Rattle.cip_frac.proofs.Fields.{outside_range}
use Rattle.cip_frac.proofs.SumSteps.{read, factor_some}

-- 1 or -1, by the sign of q
sign : ℤ → ℤ
sign q = if int_lt q (pos 0) then negsuc 0 else pos 1

inverse_is : (q : ℤ) → q ≢ pos 0 → inverse (integer q) ≡ ratio (sign q) (unsigned_abs q)
unfolding sign
inverse_is (pos zero) s = absurd (s refl)
inverse_is (pos (suc k)) s =
    let t : int_lt (pos (suc k)) (pos 0) ≡ false = sym (false_is_lt (pos (suc k)) (pos 0) (omega arith)) in
    let e = inverse-pos (integer (pos (suc k))) k (numerator-integer (pos (suc k))) in
    let n : numerator (inverse (integer (pos (suc k)))) ≡ pos 1 = e.0 ∙ ap pos (denominator-integer (pos (suc k))) in
    sym (is_ratio (inverse (integer (pos (suc k))))) ∙ rw (n, e.1, t) refl
inverse_is (negsuc k) s =
    let e = inverse-negsuc (integer (negsuc k)) k (numerator-integer (negsuc k)) in
    let n : numerator (inverse (integer (negsuc k))) ≡ negsuc 0 = e.0 ∙ ap (λ d. neg_ℤ (pos d)) (denominator-integer (negsuc k)) in
    sym (is_ratio (inverse (integer (negsuc k)))) ∙ rw (n, e.1) refl

quotient_is : (p q : ℤ) → q ≢ pos 0 → 0 < unsigned_abs q → quotient_of p q ≡ ratio (p *ℤ sign q) (unsigned_abs q)
unfolding quotient_of
quotient_is p q s some =
    ap (λ x. x *ℚ inverse (integer q)) (sym (integer_ratio p)) ∙ ap (λ x. ratio p 1 *ℚ x) (inverse_is q s)
    ∙ ratio-mul p (sign q) 1 (unsigned_abs q) (lit< tt) some ∙ ap (ratio (p *ℤ sign q)) (one-mul (unsigned_abs q))

-- the numerator, by the two signs
abbrev signed : Bool → Bool → ℕ → ℤ
signed s t size = if not (beq s t) then neg_ℤ (pos size) else pos size

size_of : (s t : Bool) (size : ℕ) → unsigned_abs (signed s t size) ≡ size
size_of true true n = refl
size_of false false n = refl
size_of true false n = omega (arith, ints)
size_of false true n = omega (arith, ints)

pub negated_product : (n g : ℕ) → (up (neg_ℤ (pos n) *ℤ pos g) ≡ 0) × (down (neg_ℤ (pos n) *ℤ pos g) ≡ n * g)
negated_product zero g = (omega (arith, product_is (pos zero) (pos g)), omega (arith, product_is (pos zero) (pos g)))
negated_product (suc n) g = (omega (arith, product_is (negsuc n) (pos g)), omega (arith, product_is (negsuc n) (pos g)))

signed_exact : (p q : ℤ) (s t : Bool) (size g : ℕ) → int_lt p (pos 0) ≡ s → int_lt q (pos 0) ≡ t → size * g ≡ unsigned_abs p → signed s t size *ℤ pos g ≡ p *ℤ (if t then negsuc 0 else pos 1)
signed_exact p q true true n g e f h = same_in _ _ (omega (arith, ints, product_is (pos n) (pos g), product_is p (negsuc 0)))
signed_exact p q false false n g e f h = same_in _ _ (omega (arith, ints, product_is (pos n) (pos g), product_is p (pos 1)))
signed_exact p q true false n g e f h =
    let a = negated_product n g in
    same_in _ _ (omega (arith, ints, a, product_is p (pos 1)))
signed_exact p q false true n g e f h =
    let a = negated_product n g in
    same_in _ _ (omega (arith, ints, a, product_is p (negsuc 0)))

not_zero : (q : ℤ) → (of_z w128 q ≡ 0 → ⊥) → q ≢ pos 0
not_zero q s e = s (ap (of_z w128) e)

module _ (p q : ℤ) (fp : FitsSigned w128 p) (fq : FitsSigned w128 q) (s : of_z w128 q ≡ 0 → ⊥) (over under g : ℕ) (eo : over ≡ unsigned_abs (read p)) (eu : under ≡ unsigned_abs (read q)) (hg : IsGcd over under g) where
  kp : read p ≡ p
  kp = to_z-of_z w128 p fp

  kq : read q ≡ q
  kq = to_z-of_z w128 q fq

  pub q_apart : q ≢ pos 0
  q_apart = not_zero q s

  q_some : 0 < unsigned_abs q
  q_some = omega (arith, ints, Apart-out q (pos 0) q_apart)

  under_is : under ≡ unsigned_abs q
  under_is = eu ∙ ap unsigned_abs kq

  over_is : over ≡ unsigned_abs p
  over_is = eo ∙ ap unsigned_abs kp

  under_some : 0 < under
  under_some = rw under_is q_some

  pub common_some : 0 < g
  common_some = positive_from_IsGcd over under g under_some hg

  coprime : IsCoprime (over / g) (under / g)
  coprime = coprime_quotients over under g common_some hg

  below_some : 0 < under / g
  below_some = factor_some (under / g) g (rw (div-mul_cancel g hg.1) under_some)

  n : ℤ
  n = signed (int_lt p (pos 0)) (int_lt q (pos 0)) (over / g)

  n_coprime : IsCoprime (unsigned_abs n) (under / g)
  unfolding n
  n_coprime = rw (size_of (int_lt p (pos 0)) (int_lt q (pos 0)) (over / g)) coprime

  value : ratio n (under / g) ≡ quotient_of p q
  unfolding n sign
  value =
      let size : over / g * g ≡ unsigned_abs p = div-mul_cancel g hg.0 ∙ over_is in
      let below : under / g * g ≡ unsigned_abs q = div-mul_cancel g hg.1 ∙ under_is in
      let above : n *ℤ pos g ≡ p *ℤ (if int_lt q (pos 0) then negsuc 0 else pos 1) = signed_exact p q (int_lt p (pos 0)) (int_lt q (pos 0)) (over / g) g refl refl size in
      let cancelled : ratio (n *ℤ pos g) (under / g * g) ≡ ratio n (under / g) = ratio-cancel n (under / g) g below_some common_some in
      sym (rw (above, below) at cancelled) ∙ sym (quotient_is p q q_apart q_some)

  pub quotient_wide : (largest < over / g) ⊎ ((over / g ≤ largest) × (largest < under / g)) → (q ≢ pos 0) × (fits_range (quotient_of p q) ≡ false)
  unfolding n
  quotient_wide w =
      let w' : (largest < unsigned_abs n) ⊎ (largest < under / g) =
      rw (size_of (int_lt p (pos 0)) (int_lt q (pos 0)) (over / g)) (elim w [ inl h ↦ inl h | inr h ↦ inr h.1 ]) in
      (q_apart, ap fits_range (sym value) ∙ outside_range n (under / g) below_some n_coprime w')

  module _ (r : ℤ) (er : r ≡ (if not (beq (int_lt (read p) (pos 0)) (int_lt (read q) (pos 0))) then neg_ℤ (pos (over / g)) else pos (over / g))) (small : over / g ≤ largest) (below_small : under / g ≤ largest) where
    r_is : r ≡ n
    unfolding n
    r_is = rw (kp, kq) at er

    n_small : unsigned_abs n < 2 ^ 127
    unfolding n
    n_small = rw (size_of (int_lt p (pos 0)) (int_lt q (pos 0)) (over / g)) (omega (arith, small))

    r_read : read r ≡ n
    r_read = ap read r_is ∙ kept n n_small

    pub quotient_lowest : AreLowest (read r) (under / g)
    quotient_lowest =
        rw r_read (record { positive = below_some; lowest = n_coprime; over_small = n_small; under_small = omega (arith, below_small) })

    pub quotient_value : (q ≢ pos 0) × (ratio (read r) (under / g) ≡ quotient_of p q)
    quotient_value = (q_apart, rw r_read value)
