-- The sum of two fractions: its lowest terms, and where one of the numbers that it is formed from is too large.
use Rattle.std.proofs.Common.{◌≡◌, ℕ, suc, ◌+◌, ◌*◌, ◌/◌, ◌<◌, ◌^◌, ℤ, pos, negsuc, ◌+ℤ◌, ◌*ℤ◌, unsigned_abs, Bool, true, false, ◌||◌, nat_lt, sym, ap, subst, ◌∙◌, refl, arith, ◌⊎◌, inl, inr}
use Rattle.std.specs.Int.{IsGcd}
use Prim.Native.Nat.{◌∣◌}
use borrow.Author.Differences.{up, down, same_in, same_out, sum_is_lem, product_is}
use Rattle.std.proofs.lemmas.Int.{ints, unsigned_abs-mul, by_lt_z}
use Rattle.std.proofs.lemmas.Bool.Decides.{nat_tests}
use Rattle.std.proofs.lemmas.Nat.Gcd.{dvd_refl, IsGcd-swap}
use Rattle.std.proofs.Math.Nat.{dvd-mul_right, dvd-mul_left_of_dvd, dvd-add, dvd-add_iff_left, dvd-add_iff_right, one-dvd, mul-pos, div-mul_cancel}
use Rattle.std.proofs.lemmas.Bool.{or_left, or_right}
use Rattle.cip_rational.specs.Gcd.{gcd}
use Rattle.cip_rational.proofs.Gcd.{gcd_unique}
use Rattle.cip_rational.specs.Rational.{ℚ, ◌+ℚ◌, ratio, numerator, denominator, is_ratio}
use Rattle.cip_rational.proofs.Rational.Ratio.{ratio-add, ratio-cancel}
use Rattle.cip_rational.specs.Range.{largest, too_large, sum_overflows}
use Rattle.cip_frac.specs.LowestTerms.{AreLowest}
use Rattle.cip_frac.proofs.Divisors.{IsCoprime, divides_other, coprime_from_divisors, coprime-product, coprime_rests, gcd-product, positive_from_IsGcd}

-- the magnitude of a sum is the sum or the difference of the magnitudes
abs_sum : (z w : ℤ) → (unsigned_abs (z +ℤ w) ≡ unsigned_abs z + unsigned_abs w) ⊎ ((unsigned_abs z ≡ unsigned_abs (z +ℤ w) + unsigned_abs w) ⊎ (unsigned_abs w ≡ unsigned_abs (z +ℤ w) + unsigned_abs z))
abs_sum (pos m) (pos n) = inl (omega arith)
abs_sum (negsuc m) (negsuc n) = inl (omega arith)
abs_sum (pos m) (negsuc n) = by_lt_z (pos m) (pos (suc n)) (λ h. inr (inr (omega (arith, ints)))) (λ h. inr (inl (omega (arith, ints))))
abs_sum (negsuc m) (pos n) = by_lt_z (pos n) (pos (suc m)) (λ h. inr (inl (omega (arith, ints)))) (λ h. inr (inr (omega (arith, ints))))

divides_first : (z w : ℤ) (e : ℕ) → e ∣ unsigned_abs (z +ℤ w) → e ∣ unsigned_abs w → e ∣ unsigned_abs z
divides_first z w e p q = elim (abs_sum z w) [
  | inl s ↦ (dvd-add_iff_left e q).1 (subst (λ n. e ∣ n) s p)
  | inr t ↦ elim t [
    | inl s ↦ subst (λ n. e ∣ n) (sym s) (dvd-add e p q)
    | inr s ↦ (dvd-add_iff_right e p).1 (subst (λ n. e ∣ n) s q)
  ]
]

-- a o + c u has nothing in common with u
coprime_total : (a c : ℤ) (o u : ℕ) → IsCoprime (unsigned_abs a) u → IsCoprime o u → IsCoprime (unsigned_abs (a *ℤ pos o +ℤ c *ℤ pos u)) u
coprime_total a c o u h k = (
  one-dvd _,
  one-dvd u,
  λ e p q.
      let second : e ∣ unsigned_abs (c *ℤ pos u) = subst (λ n. e ∣ n) (sym (unsigned_abs-mul c (pos u))) (dvd-mul_left_of_dvd e q (unsigned_abs c)) in
      let first : e ∣ unsigned_abs a * o = subst (λ n. e ∣ n) (unsigned_abs-mul a (pos o)) (divides_first (a *ℤ pos o) (c *ℤ pos u) e p second) in
      let turned : unsigned_abs a * o ≡ o * unsigned_abs a = omega arith in
      let apart : IsCoprime e o = IsGcd-swap o e 1 (coprime_from_divisors o u o e k (dvd_refl o) q) in
      h.2 e (divides_other e o (unsigned_abs a) apart (subst (λ n. e ∣ n) turned first)) q,
)

commuted : (z w : ℤ) → z +ℤ w ≡ w +ℤ z
commuted z w = omega (arith, ints)

raised_sum : (n a c : ℤ) (r g o u : ℕ) → n *ℤ pos r ≡ a *ℤ pos o +ℤ c *ℤ pos u → n *ℤ pos (r * g) ≡ a *ℤ pos (o * g) +ℤ c *ℤ pos (u * g)
raised_sum n a c r g o u e =
    let h : up n * r + down a * o + down c * u ≡ down n * r + up a * o + up c * u =
    omega (arith, same_out _ _ e, sum_is_lem (a *ℤ pos o) (c *ℤ pos u), product_is n (pos r), product_is a (pos o), product_is c (pos u)) in
    same_in _ _ (omega (arith, ap (λ t. t * g) h, sum_is_lem (a *ℤ pos (o * g)) (c *ℤ pos (u * g)), product_is n (pos (r * g)), product_is a (pos (o * g)), product_is c (pos (u * g))))

large_true : (m : ℕ) → (m < 2 ^ 127 → ⊥) → nat_lt largest m ≡ true
large_true m h = grind (arith, nat_tests)

large_false : (m : ℕ) → m < 2 ^ 127 → nat_lt largest m ≡ false
large_false m h = grind (arith, nat_tests)

all_false : (p q r s : Bool) → p ≡ false → q ≡ false → r ≡ false → s ≡ false → (p || q || r || s) ≡ false
all_false p q r s a b c d = rw (a, b, c, d) refl

module _ (x y : ℚ) (a c : ℤ) (b d : ℕ) (ea : a ≡ numerator x) (eb : b ≡ denominator x) (ha : AreLowest a b) (ec : c ≡ numerator y) (ed : d ≡ denominator y) (hc : AreLowest c d) (g : ℕ) (hg : IsGcd b d g) (o u : ℕ) (eo : o ≡ d / g) (eu : u ≡ b / g) where
  total : ℤ
  total = a *ℤ pos o +ℤ c *ℤ pos u

  overflow_is : sum_overflows x y ≡ (too_large (a *ℤ pos o) || too_large (c *ℤ pos u) || too_large (a *ℤ pos o +ℤ c *ℤ pos u) || nat_lt largest (u * d))
  unfolding sum_overflows
  overflow_is =
      let e : gcd (denominator x) (denominator y) ≡ g = rw (← eb, ← ed) (gcd_unique b d g hg) in
      rw (e, ← ea, ← eb, ← ec, ← ed, ← eo, ← eu) refl

  pub first_large : (unsigned_abs a * o < 2 ^ 127 → ⊥) → sum_overflows x y ≡ true
  first_large h =
      let l : too_large (a *ℤ pos o) ≡ true = large_true _ (rw (unsigned_abs-mul a (pos o)) h) in
      overflow_is ∙ or_left _ _ (or_left _ _ (or_left _ _ l))

  pub second_large : (unsigned_abs c * u < 2 ^ 127 → ⊥) → sum_overflows x y ≡ true
  second_large h =
      let l : too_large (c *ℤ pos u) ≡ true = large_true _ (rw (unsigned_abs-mul c (pos u)) h) in
      overflow_is ∙ or_left _ _ (or_left _ _ (or_right _ _ l))

  pub total_large : (unsigned_abs (a *ℤ pos o +ℤ c *ℤ pos u) < 2 ^ 127 → ⊥) → sum_overflows x y ≡ true
  total_large h = overflow_is ∙ or_left _ _ (or_right _ _ (large_true _ h))

  pub common_large : (u * d < 2 ^ 127 → ⊥) → sum_overflows x y ≡ true
  common_large h = overflow_is ∙ or_right _ _ (large_true _ h)

  pub none_large : unsigned_abs a * o < 2 ^ 127 → unsigned_abs c * u < 2 ^ 127 → unsigned_abs (a *ℤ pos o +ℤ c *ℤ pos u) < 2 ^ 127 → u * d < 2 ^ 127 → sum_overflows x y ≡ false
  none_large p q r s =
      let p' : too_large (a *ℤ pos o) ≡ false = large_false _ (rw (unsigned_abs-mul a (pos o)) p) in
      let q' : too_large (c *ℤ pos u) ≡ false = large_false _ (rw (unsigned_abs-mul c (pos u)) q) in
      overflow_is ∙ all_false _ _ _ _ p' q' (large_false _ r) (large_false _ s)

  pub some : 0 < g
  some = positive_from_IsGcd b d g hc.positive hg

  pub o_is : o * g ≡ d
  o_is = ap (λ n. n * g) eo ∙ div-mul_cancel g hg.1

  pub u_is : u * g ≡ b
  u_is = ap (λ n. n * g) eu ∙ div-mul_cancel g hg.0

  apart : IsCoprime o u
  apart = IsGcd-swap u o 1 (coprime_rests u o g some (rw (u_is, o_is) hg))

  total_apart : IsCoprime (unsigned_abs (a *ℤ pos o +ℤ c *ℤ pos u)) (u * o)
  total_apart =
      let p : u ∣ b = subst (λ n. u ∣ n) u_is (dvd-mul_right u g) in
      let q : o ∣ d = subst (λ n. o ∣ n) o_is (dvd-mul_right o g) in
      let first = coprime_total a c o u (coprime_from_divisors _ _ _ _ ha.lowest (dvd_refl (unsigned_abs a)) p) apart in
      let second = coprime_total c a u o (coprime_from_divisors _ _ _ _ hc.lowest (dvd_refl (unsigned_abs c)) q) (IsGcd-swap o u 1 apart) in
      coprime-product _ u o first (rw (commuted (a *ℤ pos o) (c *ℤ pos u)) second)

  module _ (r : ℕ) (hr : IsGcd (unsigned_abs (a *ℤ pos o +ℤ c *ℤ pos u)) g r) (n : ℤ) (m : ℕ) (en : n *ℤ pos r ≡ a *ℤ pos o +ℤ c *ℤ pos u) (em : m * r ≡ u * d) where
    pub some_rest : 0 < r
    some_rest = positive_from_IsGcd _ g r some hr

    whole_gcd : IsGcd (unsigned_abs n * r) (m * r) r
    whole_gcd =
        let t : unsigned_abs n * r ≡ unsigned_abs (a *ℤ pos o +ℤ c *ℤ pos u) = sym (unsigned_abs-mul n (pos r)) ∙ ap unsigned_abs en in
        let s : m * r ≡ u * o * g = em ∙ omega (arith, ap (λ k. u * k) o_is) in
        rw (t, s) (gcd-product _ (u * o) g r total_apart hr)

    pub sum_coprime : IsCoprime (unsigned_abs n) m
    sum_coprime = coprime_rests (unsigned_abs n) m r some_rest whole_gcd

    pub sum_ratio : 0 < m → ratio n m ≡ x +ℚ y
    sum_ratio some_m =
        let p : 0 < r * g = mul-pos some_rest some in
        let over : n *ℤ pos (r * g) ≡ a *ℤ pos d +ℤ c *ℤ pos b = rw (o_is, u_is) at (raised_sum n a c r g o u en) in
        let under : m * (r * g) ≡ b * d = omega (arith, ap (λ k. k * g) em, ap (λ k. k * d) u_is) in
        let cancelled : ratio (n *ℤ pos (r * g)) (m * (r * g)) ≡ ratio n m = ratio-cancel n m (r * g) some_m p in
        let left : ratio a b ≡ x = rw (ea, eb) (is_ratio x) in
        let right : ratio c d ≡ y = rw (ec, ed) (is_ratio y) in
        let added : ratio a b +ℚ ratio c d ≡ ratio (a *ℤ pos d +ℤ c *ℤ pos b) (b * d) = ratio-add a c b d ha.positive hc.positive in
        sym (rw (over, under) at cancelled) ∙ sym added ∙ ap (λ z. z +ℚ ratio c d) left ∙ ap (λ z. x +ℚ z) right
