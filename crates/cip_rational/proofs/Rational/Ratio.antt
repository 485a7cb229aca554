-- The laws of `ratio`: sums, products, order and equality of ratios are those of their cross products.
use lib.IntN.{ℤ, pos}
use lib.Dec.{not_T}
use native.Mathlib.Nat.{mul-pos}
use borrow.Author.Differences.{up, down, sum_is_lem, neg_is, product_is, same_in, same_out, le_T, le_in, lt_T, lt_in, le_not}
use Rattle.std.proofs.Common.{◌≡◌, ℕ, zero, suc, ◌+◌, ◌*◌, ◌<◌, Bool, true, false, T, ◌+ℤ◌, ◌*ℤ◌, ◌≤ℤ◌, ◌<ℤ◌, neg_ℤ, int_le, int_lt, refl, sym, ap, ◌∙◌, subst, arith, leb→le, le→leb}
use Rattle.cip_rational.specs.Fraction.{Fraction, Same, of, same_equal}
use Rattle.cip_rational.specs.OnFractions.{fraction_at_most}
use Rattle.cip_rational.specs.Rational.{◌+ℚ◌, ◌*ℚ◌, negate, ratio, integer, whole, le_test, lt_test, ◌≤ℚ◌, ◌<ℚ◌, ratio_of}

-- ---- equality

-- fractions that are one rational have one value
pub exact : (x y : Fraction) → of x ≡ of y → Same x y
unfolding le_test
exact x y e =
    let t : T (le_test (of x) (of x)) = le→leb (x.up * x.den + x.down * x.den) (x.up * x.den + x.down * x.den) (omega arith) in
    let p : T (fraction_at_most x y) = subst (λ q. T (le_test (of x) q)) e t in
    let r : T (fraction_at_most y x) = subst (λ q. T (le_test q (of x))) e t in
    record { cross = omega (arith, leb→le _ _ p, leb→le _ _ r) }

-- two tests that pass together are equal
pub same_truth : (s t : Bool) → (T s → T t) → (T t → T s) → s ≡ t
same_truth true true f g = refl
same_truth false false f g = refl
same_truth true false f g = absurd (f tt)
same_truth false true f g = absurd (g tt)

module _ (a c : ℤ) (b d : ℕ) (p : 0 < b) (q : 0 < d) where
  pub ratio_same : a *ℤ pos d ≡ c *ℤ pos b → ratio a b ≡ ratio c d
  ratio_same e =
      rw (ratio_of a b p, ratio_of c d q) (same_equal _ _ (record { cross = omega (arith, same_out _ _ e, product_is a (pos d), product_is c (pos b)) }))

  pub same_ratio : ratio a b ≡ ratio c d → a *ℤ pos d ≡ c *ℤ pos b
  same_ratio e =
      let s = exact _ _ (sym (ratio_of a b p) ∙ e ∙ ratio_of c d q) in
      same_in _ _ (omega (arith, s.cross, product_is a (pos d), product_is c (pos b)))

  -- ---- operations

  pub ratio-add : ratio a b +ℚ ratio c d ≡ ratio (a *ℤ pos d +ℤ c *ℤ pos b) (b * d)
  unfolding ◌+ℚ◌
  ratio-add =
      let h : up a * d + up c * b + down (a *ℤ pos d +ℤ c *ℤ pos b) ≡ up (a *ℤ pos d +ℤ c *ℤ pos b) + down a * d + down c * b = omega (arith, sum_is_lem (a *ℤ pos d) (c *ℤ pos b), product_is a (pos d), product_is c (pos b)) in
      rw (ratio_of a b p, ratio_of c d q, ratio_of (a *ℤ pos d +ℤ c *ℤ pos b) (b * d) (mul-pos p q)) (same_equal _ _ (record { cross = omega (arith, ap (λ t. t * (b * d)) h) }))

  pub ratio-mul : ratio a b *ℚ ratio c d ≡ ratio (a *ℤ c) (b * d)
  unfolding ◌*ℚ◌
  ratio-mul =
      rw (ratio_of a b p, ratio_of c d q, ratio_of (a *ℤ c) (b * d) (mul-pos p q)) (same_equal _ _ (record { cross = omega (arith, ap (λ t. t * (b * d)) (product_is a c).0, ap (λ t. t * (b * d)) (product_is a c).1) }))

  -- ---- order

  pub ratio-le_test : le_test (ratio a b) (ratio c d) ≡ int_le (a *ℤ pos d) (c *ℤ pos b)
  unfolding le_test
  ratio-le_test =
      let x = product_is a (pos d) in
      let y = product_is c (pos b) in
      rw (ratio_of a b p, ratio_of c d q)
      (same_truth _ _
      (λ t. le_in (a *ℤ pos d) (c *ℤ pos b) (omega (arith, x, y, leb→le _ _ t)))
      (λ t. le→leb (up a * d + down c * b) (up c * b + down a * d) (omega (arith, x, y, le_T (a *ℤ pos d) (c *ℤ pos b) t))))

  pub ratio-le : (a *ℤ pos d) ≤ℤ (c *ℤ pos b) → ratio a b ≤ℚ ratio c d
  ratio-le h = record { le = subst T (sym ratio-le_test) h.le }

  pub le-ratio : ratio a b ≤ℚ ratio c d → (a *ℤ pos d) ≤ℤ (c *ℤ pos b)
  le-ratio h = record { le = subst T ratio-le_test h.le }

  pub ratio-lt_test : lt_test (ratio c d) (ratio a b) ≡ int_lt (c *ℤ pos b) (a *ℤ pos d)
  unfolding lt_test
  ratio-lt_test =
      rw ratio-le_test
      (same_truth _ _
      (λ t. lt_in (c *ℤ pos b) (a *ℤ pos d) (omega (arith, le_not (a *ℤ pos d) (c *ℤ pos b) t)))
      (λ t. not_T _ (λ s. absurd (omega (arith, lt_T (c *ℤ pos b) (a *ℤ pos d) t, le_T (a *ℤ pos d) (c *ℤ pos b) s)))))

  pub ratio-lt : (c *ℤ pos b) <ℤ (a *ℤ pos d) → ratio c d <ℚ ratio a b
  ratio-lt h = record { lt = subst T (sym ratio-lt_test) h.lt }

  pub lt-ratio : ratio c d <ℚ ratio a b → (c *ℤ pos b) <ℤ (a *ℤ pos d)
  lt-ratio h = record { lt = subst T ratio-lt_test h.lt }

-- a common factor cancels
pub ratio-cancel : (z : ℤ) (d k : ℕ) → 0 < d → 0 < k → ratio (z *ℤ pos k) (d * k) ≡ ratio z d
ratio-cancel z d k p q = ratio_same (z *ℤ pos k) z (d * k) d (mul-pos p q) p
    (same_in _ _ (omega (arith, product_is (z *ℤ pos k) (pos d), product_is z (pos (d * k)), ap (λ t. t * d) (product_is z (pos k)).0, ap (λ t. t * d) (product_is z (pos k)).1)))

pub ratio-negate : (z : ℤ) (d : ℕ) → negate (ratio z d) ≡ ratio (neg_ℤ z) d
unfolding negate ratio whole
ratio-negate z zero = refl
ratio-negate z (suc n) =
    let h : down z * suc n + down (neg_ℤ z) * suc n ≡ up (neg_ℤ z) * suc n + up z * suc n = rw ((neg_is z).0, (neg_is z).1) (omega arith) in
    same_equal _ _ (record { cross = h })

-- an integer is that ratio
pub integer_ratio : (z : ℤ) → ratio z 1 ≡ integer z
unfolding integer
integer_ratio z = refl
