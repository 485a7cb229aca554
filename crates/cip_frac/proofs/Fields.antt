-- The fields of a fraction, and the rational that they stand for.
use Rattle.std.proofs.Common.{◌≡◌, ◌≢◌, ℕ, zero, suc, ◌<◌, ◌≤◌, ◌^◌, ◌==◌, ℤ, pos, negsuc, neg_ℤ, ◌*ℤ◌, ◌-ℤ◌, ◌<ℤ◌, int_lt, int_le, unsigned_abs, Bool, true, false, T, IsTrue, ◌↔◌, if◌then◌else◌, arith, sym, ap, subst, ◌∙◌, refl, nat_le, ◌&&◌, eqb→eq, eq-eqb, FitsSigned, ◌⊎◌, inl, inr, lit<, to_z, of_z, eqb}
use Rattle.std.specs.Int.{IsGcd, w128, int_div_euclid}
use Rattle.std.proofs.lemmas.Int.{ints}
use Rattle.std.proofs.lemmas.Nat.Gcd.{dvd_refl, IsGcd-swap}
use Rattle.std.proofs.Math.Nat.{one-dvd}
use borrow.Author.Differences.{true_is_lt, true_is_le, false_is_le, false_is_lt, Apart-out}
use Rattle.std.proofs.lemmas.Bool.Decides.{nat_tests}
use Rattle.cip_rational.specs.Rational.{ℚ, ratio, integer, negate, inverse, absolute, numerator, denominator, IsWhole, zeroℚ, oneℚ, ◌<ℚ◌, le_test, is_ratio, floor, ceil}
use Rattle.cip_rational.proofs.Rational.Ratio.{integer_ratio, ratio-negate, ratio_same, ratio-lt, lt-ratio, ratio-le_test}
use Rattle.cip_rational.proofs.Rational.Lowest.{numerator_lowest, denominator_lowest, inverse-pos, inverse-negsuc, unsigned_abs-neg}
use Rattle.cip_rational.proofs.Rational.Whole.{is_whole-denominator, denominator-is_whole, floor-ratio, ceil-ratio}
use Rattle.cip_rational.proofs.Rational.Rounding.{integer-zero, integer-one}
use Rattle.cip_rational.specs.Range.{fits_range, largest}
use Rattle.cip_rational.proofs.Integers.{gcd_one}
use Rattle.cip_frac.specs.LowestTerms.{AreLowest}
use Rattle.cip_frac.proofs.Casts.{kept, kept_natural, negated}

pub AreLowest-neg : (n : ℤ) (d : ℕ) → AreLowest n d → AreLowest (neg_ℤ n) d
AreLowest-neg n d h =
    record {
      positive = h.positive;
      lowest = rw unsigned_abs-neg h.lowest;
      over_small = rw unsigned_abs-neg h.over_small;
      under_small = h.under_small;
    }

pub AreLowest-whole : (n : ℤ) → unsigned_abs n < 2 ^ 127 → AreLowest n 1
AreLowest-whole n h =
    record {
      positive = omega arith;
      lowest = (one-dvd (unsigned_abs n), dvd_refl 1, λ e p q. q);
      over_small = h;
      under_small = lit< tt;
    }

pub zero_ratio : ratio (pos 0) 1 ≡ zeroℚ
zero_ratio = integer_ratio (pos 0) ∙ integer-zero

pub one_ratio : ratio (pos 1) 1 ≡ oneℚ
one_ratio = integer_ratio (pos 1) ∙ integer-one

zero_bits : (n : ℤ) → unsigned_abs n < 2 ^ 127 → of_z w128 n ≡ 0 → n ≡ pos 0
zero_bits n h e = omega (arith, ints, e)

below_zero : (n : ℤ) (d : ℕ) → 0 < d → n <ℤ pos 0 → (n *ℤ pos 1) <ℤ (pos 0 *ℤ pos d)
below_zero n d p h = omega (arith, ints)

zero_above : (n : ℤ) (d : ℕ) → 0 < d → (n *ℤ pos 1) <ℤ (pos 0 *ℤ pos d) → n <ℤ pos 0
zero_above n d p h = omega (arith, ints)

above_zero : (n : ℤ) (d : ℕ) → 0 < d → pos 0 <ℤ n → (pos 0 *ℤ pos d) <ℤ (n *ℤ pos 1)
above_zero n d p h = omega (arith, ints)

zero_below : (n : ℤ) (d : ℕ) → 0 < d → (pos 0 *ℤ pos d) <ℤ (n *ℤ pos 1) → pos 0 <ℤ n
zero_below n d p h = omega (arith, ints)

to_true : (a b : ℤ) → a <ℤ b → int_lt a b ≡ true
to_true a b h = sym (true_is_lt a b (omega (arith, ints)))

negative_le : (n : ℤ) (d : ℕ) → 0 < d → int_lt n (pos 0) ≡ true → int_le (pos 0 *ℤ pos d) (n *ℤ pos 1) ≡ false
negative_le n d p t = sym (false_is_le (pos 0 *ℤ pos d) (n *ℤ pos 1) (omega (arith, ints)))

positive_le : (n : ℤ) (d : ℕ) → 0 < d → int_lt n (pos 0) ≡ false → int_le (pos 0 *ℤ pos d) (n *ℤ pos 1) ≡ true
positive_le n d p t = sym (true_is_le (pos 0 *ℤ pos d) (n *ℤ pos 1) (omega (arith, ints)))

pub lowest_ratio : (n : ℤ) (d : ℕ) (q : ℚ) → n ≡ numerator q → d ≡ denominator q → ratio n d ≡ q
lowest_ratio n d q over under = rw (over, under) (is_ratio q)

pub kept_lowest : (m n : ℤ) (k d : ℕ) → m ≡ n → k ≡ d → AreLowest n d → AreLowest (to_z w128 (of_z w128 m)) k
kept_lowest m n k d e f h = rw (e, f, kept n h.over_small) h

pub negated_lowest : (n : ℤ) (d : ℕ) → AreLowest n d → AreLowest (to_z w128 (of_z w128 (pos 0 -ℤ to_z w128 (of_z w128 n)))) d
negated_lowest n d h = rw (negated n h.over_small) (AreLowest-neg n d h)

pub negated_ratio : (n : ℤ) (d : ℕ) (q : ℚ) → AreLowest n d → ratio n d ≡ q → ratio (to_z w128 (of_z w128 (pos 0 -ℤ to_z w128 (of_z w128 n)))) d ≡ negate q
negated_ratio n d q h e = ap (λ z. ratio z d) (negated n h.over_small) ∙ sym (ratio-negate n d) ∙ ap negate e

module _ (n : ℤ) (d : ℕ) (q : ℚ) (h : AreLowest n d) (e : ratio n d ≡ q) where
  pub numerator_is : n ≡ numerator q
  numerator_is = sym (numerator_lowest n d h.positive h.lowest) ∙ ap numerator e

  pub denominator_is : d ≡ denominator q
  denominator_is = sym (denominator_lowest n d h.positive h.lowest) ∙ ap denominator e

  pub numerator_field : to_z w128 (of_z w128 n) ≡ numerator q
  numerator_field = kept n h.over_small ∙ numerator_is

  pub denominator_field : to_z w128 d ≡ pos (denominator q)
  denominator_field = kept_natural d h.under_small ∙ ap pos denominator_is

  pub whole_test : IsTrue (d == 1) ↔ IsWhole q
  whole_test =
      (λ t. denominator-is_whole q (sym denominator_is ∙ eqb→eq d 1 (subst T (sym t) tt)), λ w. eq-eqb d 1 (denominator_is ∙ is_whole-denominator q w))

  zero_numerator : q ≡ zeroℚ → n ≡ pos 0
  zero_numerator z = numerator_is ∙ ap numerator (z ∙ sym zero_ratio) ∙ numerator_lowest (pos 0) 1 (lit< tt) (AreLowest-whole (pos 0) (lit< tt)).lowest

  numerator_zero : n ≡ pos 0 → q ≡ zeroℚ
  numerator_zero z = sym e ∙ ap (λ m. ratio m d) z ∙ ratio_same (pos 0) (pos 0) d 1 h.positive (lit< tt) (omega (arith, ints)) ∙ zero_ratio

  pub zero_test : IsTrue (eqb (of_z w128 n) 0) ↔ (q ≡ zeroℚ)
  zero_test = (
    λ t. numerator_zero (zero_bits n h.over_small (eqb→eq (of_z w128 n) 0 (subst T (sym t) tt))),
    λ z. ap (λ m. eqb (of_z w128 m) 0) (zero_numerator z),
  )

  pub negative_test : IsTrue (int_lt (to_z w128 (of_z w128 n)) (pos 0)) ↔ (q <ℚ zeroℚ)
  negative_test =
      let k : to_z w128 (of_z w128 n) ≡ n = kept n h.over_small in
      rw k (
        λ t. subst (λ x. x <ℚ zeroℚ) e (subst (λ x. ratio n d <ℚ x) zero_ratio (ratio-lt (pos 0) n 1 d (lit< tt) h.positive (below_zero n d h.positive (omega (arith, ints, t))))),
        λ b. to_true n (pos 0) (zero_above n d h.positive (lt-ratio (pos 0) n 1 d (lit< tt) h.positive (subst (λ x. ratio n d <ℚ x) (sym zero_ratio) (subst (λ x. x <ℚ zeroℚ) (sym e) b)))),
      )

  pub positive_test : IsTrue (int_lt (pos 0) (to_z w128 (of_z w128 n))) ↔ (zeroℚ <ℚ q)
  positive_test =
      let k : to_z w128 (of_z w128 n) ≡ n = kept n h.over_small in
      rw k (
        λ t. subst (λ x. zeroℚ <ℚ x) e (subst (λ x. x <ℚ ratio n d) zero_ratio (ratio-lt n (pos 0) d 1 h.positive (lit< tt) (above_zero n d h.positive (omega (arith, ints, t))))),
        λ b. to_true (pos 0) n (zero_below n d h.positive (lt-ratio n (pos 0) d 1 h.positive (lit< tt) (subst (λ x. x <ℚ ratio n d) (sym zero_ratio) (subst (λ x. zeroℚ <ℚ x) (sym e) b)))),
      )

  test_of_zero : le_test zeroℚ q ≡ int_le (pos 0 *ℤ pos d) (n *ℤ pos 1)
  test_of_zero = ap (λ x. le_test zeroℚ x) (sym e) ∙ ap (λ x. le_test x (ratio n d)) (sym zero_ratio) ∙ ratio-le_test (pos 0) n 1 d (lit< tt) h.positive

  pub absolute_negative : int_lt (to_z w128 (of_z w128 n)) (pos 0) ≡ true → negate q ≡ absolute q
  unfolding absolute
  absolute_negative t =
      let k : to_z w128 (of_z w128 n) ≡ n = kept n h.over_small in
      rw (test_of_zero, negative_le n d h.positive (rw k at t)) refl

  pub absolute_other : int_lt (to_z w128 (of_z w128 n)) (pos 0) ≡ false → q ≡ absolute q
  unfolding absolute
  absolute_other t =
      let k : to_z w128 (of_z w128 n) ≡ n = kept n h.over_small in
      rw (test_of_zero, positive_le n d h.positive (rw k at t)) refl

  pub floor_field : (r : ℤ) → r ≡ int_div_euclid (to_z w128 (of_z w128 n)) (pos d) → unsigned_abs r ≤ unsigned_abs (to_z w128 (of_z w128 n)) → to_z w128 (of_z w128 r) ≡ floor q
  floor_field r s b =
      let k : to_z w128 (of_z w128 n) ≡ n = kept n h.over_small in
      let s' : r ≡ int_div_euclid n (pos d) = rw k at s in
      let b' : unsigned_abs r ≤ unsigned_abs n = rw k at b in
      kept r (omega (arith, h.over_small)) ∙ s' ∙ sym (floor-ratio n d h.positive) ∙ ap floor e

  floor_small : (r : ℤ) → unsigned_abs r ≤ unsigned_abs (to_z w128 (of_z w128 n)) → unsigned_abs r < 2 ^ 127
  floor_small r b =
      let k : to_z w128 (of_z w128 n) ≡ n = kept n h.over_small in
      let b' : unsigned_abs r ≤ unsigned_abs n = rw k at b in
      omega (arith, h.over_small)

  pub floor_lowest : (r : ℤ) → r ≡ int_div_euclid (to_z w128 (of_z w128 n)) (pos d) → unsigned_abs r ≤ unsigned_abs (to_z w128 (of_z w128 n)) → AreLowest (to_z w128 (of_z w128 r)) 1
  floor_lowest r s b = let small = floor_small r b in rw (kept r small) (AreLowest-whole r small)

  pub floor_ratio : (r : ℤ) → r ≡ int_div_euclid (to_z w128 (of_z w128 n)) (pos d) → unsigned_abs r ≤ unsigned_abs (to_z w128 (of_z w128 n)) → ratio (to_z w128 (of_z w128 r)) 1 ≡ integer (floor q)
  floor_ratio r s b = ap (λ z. ratio z 1) (floor_field r s b) ∙ integer_ratio (floor q)

  pub ceil_field : (r : ℤ) → r ≡ int_div_euclid (to_z w128 (of_z w128 (pos 0 -ℤ to_z w128 (of_z w128 n)))) (pos d) → unsigned_abs r ≤ unsigned_abs (to_z w128 (of_z w128 (pos 0 -ℤ to_z w128 (of_z w128 n)))) → to_z w128 (of_z w128 (pos 0 -ℤ to_z w128 (of_z w128 r))) ≡ ceil q
  ceil_field r s b =
      let k : to_z w128 (of_z w128 (pos 0 -ℤ to_z w128 (of_z w128 n))) ≡ neg_ℤ n = negated n h.over_small in
      let s' : r ≡ int_div_euclid (neg_ℤ n) (pos d) = rw k at s in
      let b' : unsigned_abs r ≤ unsigned_abs (neg_ℤ n) = rw k at b in
      let c : unsigned_abs r < 2 ^ 127 = omega (arith, h.over_small, unsigned_abs-neg n) in
      negated r c ∙ ap neg_ℤ s' ∙ sym (ceil-ratio n d h.positive) ∙ ap ceil e

  positive_numerator : (k : ℕ) → n ≡ pos (suc k) → ratio (pos d) (suc k) ≡ inverse q
  positive_numerator k z =
      let t = inverse-pos q k (sym numerator_is ∙ z) in
      rw (denominator_is, ← t.0, ← t.1) (is_ratio (inverse q))

  negative_numerator : (k : ℕ) → n ≡ negsuc k → ratio (neg_ℤ (pos d)) (suc k) ≡ inverse q
  negative_numerator k z =
      let t = inverse-negsuc q k (sym numerator_is ∙ z) in
      rw (denominator_is, ← t.0, ← t.1) (is_ratio (inverse q))

-- a number that is not 0, turned round
turned_lowest : (n : ℤ) (d : ℕ) (t : Bool) → AreLowest n d → n ≢ pos 0 → AreLowest (if t then neg_ℤ (pos d) else pos d) (unsigned_abs n)
turned_lowest n d true h s =
    record {
      positive = omega (arith, ints, Apart-out n (pos 0) s);
      lowest = rw unsigned_abs-neg (IsGcd-swap _ _ _ h.lowest);
      over_small = rw unsigned_abs-neg h.under_small;
      under_small = h.over_small;
    }
turned_lowest n d false h s =
    record {
      positive = omega (arith, ints, Apart-out n (pos 0) s);
      lowest = IsGcd-swap _ _ _ h.lowest;
      over_small = h.under_small;
      under_small = h.over_small;
    }

turned_ratio : (n : ℤ) (d : ℕ) (q : ℚ) → AreLowest n d → ratio n d ≡ q → n ≢ pos 0 → ratio (if int_lt n (pos 0) then neg_ℤ (pos d) else pos d) (unsigned_abs n) ≡ inverse q
turned_ratio (pos zero) d q h e s = absurd (s refl)
turned_ratio (pos (suc k)) d q h e s =
    let t : int_lt (pos (suc k)) (pos 0) ≡ false = sym (false_is_lt (pos (suc k)) (pos 0) (omega arith)) in
    rw t (positive_numerator (pos (suc k)) d q h e k refl)
turned_ratio (negsuc k) d q h e s = negative_numerator (negsuc k) d q h e k refl

module _ (n : ℤ) (d : ℕ) (q : ℚ) (h : AreLowest n d) (e : ratio n d ≡ q) (s : q ≢ zeroℚ) (r : ℤ) (m : ℕ) (er : r ≡ (if int_lt (to_z w128 (of_z w128 n)) (pos 0) then neg_ℤ (pos d) else pos d)) (em : m ≡ unsigned_abs (to_z w128 (of_z w128 n))) where
  k : to_z w128 (of_z w128 n) ≡ n
  k = kept n h.over_small

  apart : n ≢ pos 0
  apart z = s (numerator_zero n d q h e z)

  same_m : unsigned_abs n ≡ m
  same_m = sym (em ∙ ap unsigned_abs k)

  same_r : (if int_lt n (pos 0) then neg_ℤ (pos d) else pos d) ≡ to_z w128 (of_z w128 r)
  same_r =
      let r' : (if int_lt n (pos 0) then neg_ℤ (pos d) else pos d) ≡ r = sym (rw k at er) in
      let low : AreLowest (if int_lt n (pos 0) then neg_ℤ (pos d) else pos d) (unsigned_abs n) = turned_lowest n d (int_lt n (pos 0)) h apart in
      r' ∙ sym (kept r (subst (λ z. unsigned_abs z < 2 ^ 127) r' low.over_small))

  pub reciprocal_lowest : AreLowest (to_z w128 (of_z w128 r)) m
  reciprocal_lowest = subst (λ z. AreLowest z m) same_r (subst (λ w. AreLowest (if int_lt n (pos 0) then neg_ℤ (pos d) else pos d) w) same_m (turned_lowest n d (int_lt n (pos 0)) h apart))

  pub reciprocal_ratio : ratio (to_z w128 (of_z w128 r)) m ≡ inverse q
  reciprocal_ratio = subst (λ z. ratio z m ≡ inverse q) same_r (subst (λ w. ratio (if int_lt n (pos 0) then neg_ℤ (pos d) else pos d) w ≡ inverse q) same_m (turned_ratio n d q h e apart))

-- ---- the range

module _ (n : ℤ) (d : ℕ) (p : 0 < d) (g : IsGcd (unsigned_abs n) d 1) where
  range_of : fits_range (ratio n d) ≡ (nat_le (unsigned_abs n) largest && nat_le d largest)
  unfolding fits_range
  range_of = rw (numerator_lowest n d p g, denominator_lowest n d p g) refl

  pub outside_range : (largest < unsigned_abs n) ⊎ (largest < d) → fits_range (ratio n d) ≡ false
  outside_range s = range_of ∙ go s
    where
      go : (largest < unsigned_abs n) ⊎ (largest < d) → (nat_le (unsigned_abs n) largest && nat_le d largest) ≡ false
      go (inl a) = grind (arith, nat_tests)
      go (inr b) = grind (arith, nat_tests)

  pub inside_range : unsigned_abs n < 2 ^ 127 → d < 2 ^ 127 → fits_range (ratio n d) ≡ true
  inside_range a b = range_of ∙ (let c : (nat_le (unsigned_abs n) largest && nat_le d largest) ≡ true = grind (arith, nat_tests) in c)

pub least_is : (p : ℤ) → of_z w128 p ≡ 2 ^ 127 → FitsSigned w128 p → p ≡ negsuc largest
least_is p e f = omega (arith, ints, e, f)

pub least_is_outside : (p : ℤ) → of_z w128 p ≡ 2 ^ 127 → FitsSigned w128 p → fits_range (integer p) ≡ false
least_is_outside p e f =
    ap fits_range (sym (integer_ratio p)) ∙ outside_range p 1 (lit< tt) (gcd_one (unsigned_abs p)) (inl (omega (arith, ints, e, f)))

pub not_least : (p : ℤ) → (of_z w128 p ≡ 2 ^ 127 → ⊥) → FitsSigned w128 p → unsigned_abs p < 2 ^ 127
not_least p s f = omega (arith, ints, s, f)
