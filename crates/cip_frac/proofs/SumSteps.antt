-- The steps of a sum as the code takes them, over integers that went to their bits and back.
use Rattle.std.proofs.Common.{◌≡◌, ℕ, ◌*◌, ◌/◌, ◌<◌, ◌≤◌, ◌^◌, ℤ, pos, negsuc, zero, suc, ◌+ℤ◌, ◌*ℤ◌, unsigned_abs, int_div, true, false, Fits, to_z, of_z, sym, ap, subst, ◌∙◌, arith}
use Rattle.std.specs.Int.{IsGcd, w128}
use Prim.Native.Nat.{◌∣◌}
use borrow.Author.Differences.{same_in, quot_is, product_is}
use Rattle.std.proofs.lemmas.Int.{unsigned_abs-mul}
use Rattle.std.proofs.lemmas.Nat.Gcd.{dvd_trans}
use Rattle.std.proofs.Math.Nat.{div-mul_cancel, zero-div, mul-pos, le-mul_of_pos_right}
use Rattle.cip_rational.specs.Rational.{ℚ, ◌+ℚ◌, ratio, numerator, denominator}
use Rattle.cip_rational.specs.Range.{sum_overflows}
use Rattle.cip_rational.proofs.Integers.{gcd_one, times_one}
use Rattle.cip_frac.specs.LowestTerms.{AreLowest}
use Rattle.cip_frac.proofs.Casts.{kept}
use Rattle.cip_frac.proofs.Divisors.{gcd_below, positive_from_IsGcd}
use Rattle.cip_frac.proofs.SumParts.{first_large, second_large, total_large, common_large, none_large, some, some_rest, u_is, sum_coprime, sum_ratio}

-- z, to its bits and back
abbrev pub read : ℤ → ℤ
read z = to_z w128 (of_z w128 z)

-- the parts of the two denominators
pub record Known (x y : ℚ) (a c : ℤ) (b d g o u : ℕ) : Type 0 where
  pub ea : a ≡ numerator x
  pub eb : b ≡ denominator x
  pub ha : AreLowest a b
  pub ec : c ≡ numerator y
  pub ed : d ≡ denominator y
  pub hc : AreLowest c d
  pub hg : IsGcd b d g
  pub eo : o ≡ d / g
  pub eu : u ≡ b / g

pub known : {x y : ℚ} {a c : ℤ} {b d g o u : ℕ} → a ≡ numerator x → b ≡ denominator x → AreLowest a b → c ≡ numerator y → d ≡ denominator y → AreLowest c d → IsGcd b d g → o ≡ d / g → u ≡ b / g → Known x y a c b d g o u
known ea eb ha ec ed hc hg eo eu = record { ea = ea; eb = eb; ha = ha; ec = ec; ed = ed; hc = hc; hg = hg; eo = eo; eu = eu }

-- a divisor comes out of both parts
pub exact_quotient : (z : ℤ) (k : ℕ) → k ∣ unsigned_abs z → int_div z (pos k) *ℤ pos k ≡ z
exact_quotient (pos n) k h = same_in _ _ (omega (arith, div-mul_cancel k h))
exact_quotient (negsuc n) k h =
    let e : suc n / k * k ≡ suc n = div-mul_cancel k h in
    let q = quot_is (negsuc n) k in
    same_in _ _ (omega (arith, e, zero-div k, ap (λ t. t * k) q.0, ap (λ t. t * k) q.1, product_is (int_div (negsuc n) (pos k)) (pos k)))

pub factor_some : (m r : ℕ) → 0 < m * r → 0 < m
factor_some zero r h = absurd (omega arith)
factor_some (suc m) r h = omega arith

module _ {x y : ℚ} {a c : ℤ} {b d g o u : ℕ} (w : Known x y a c b d g o u) where
  pub first_none : (unsigned_abs (read a) * o < 2 ^ 127 → ⊥) → sum_overflows x y ≡ true
  first_none h = first_large x y a c b d w.ea w.eb w.ha w.ec w.ed w.hc g w.hg o u w.eo w.eu (rw (kept a w.ha.over_small) at h)

  pub second_none : (unsigned_abs (read c) * u < 2 ^ 127 → ⊥) → sum_overflows x y ≡ true
  second_none h = second_large x y a c b d w.ea w.eb w.ha w.ec w.ed w.hc g w.hg o u w.eo w.eu (rw (kept c w.hc.over_small) at h)

  pub common_none : (u * d < 2 ^ 127 → ⊥) → sum_overflows x y ≡ true
  common_none h = common_large x y a c b d w.ea w.eb w.ha w.ec w.ed w.hc g w.hg o u w.eo w.eu h

  module _ {first second : ℤ} (p : (unsigned_abs (read a) * o < 2 ^ 127) × (first ≡ read a *ℤ pos o)) (q : (unsigned_abs (read c) * u < 2 ^ 127) × (second ≡ read c *ℤ pos u)) where
    first_is : read first ≡ a *ℤ pos o
    first_is =
        let k = kept a w.ha.over_small in
        let e : first ≡ a *ℤ pos o = rw k at p.1 in
        let s : unsigned_abs first < 2 ^ 127 = rw (e, unsigned_abs-mul a (pos o)) (rw k at p.0) in
        kept first s ∙ e

    second_is : read second ≡ c *ℤ pos u
    second_is =
        let k = kept c w.hc.over_small in
        let e : second ≡ c *ℤ pos u = rw k at q.1 in
        let s : unsigned_abs second < 2 ^ 127 = rw (e, unsigned_abs-mul c (pos u)) (rw k at q.0) in
        kept second s ∙ e

    pub total_none : (unsigned_abs (read first +ℤ read second) < 2 ^ 127 → ⊥) → sum_overflows x y ≡ true
    total_none h = total_large x y a c b d w.ea w.eb w.ha w.ec w.ed w.hc g w.hg o u w.eo w.eu (rw (first_is, second_is) at h)

    module _ {total : ℤ} {common : ℕ} (s : (unsigned_abs (read first +ℤ read second) < 2 ^ 127) × (total ≡ read first +ℤ read second)) (t : (u * d < 2 ^ 127) × (common ≡ u * d)) where
      total_small : unsigned_abs (a *ℤ pos o +ℤ c *ℤ pos u) < 2 ^ 127
      total_small = rw (first_is, second_is) at s.0

      total_is : read total ≡ a *ℤ pos o +ℤ c *ℤ pos u
      total_is =
          let e : total ≡ a *ℤ pos o +ℤ c *ℤ pos u = rw (first_is, second_is) at s.1 in
          kept total (rw e total_small) ∙ e

      pub all_fit : sum_overflows x y ≡ false
      all_fit =
          none_large x y a c b d w.ea w.eb w.ha w.ec w.ed w.hc g w.hg o u w.eo w.eu
          (rw (kept a w.ha.over_small) at p.0) (rw (kept c w.hc.over_small) at q.0) total_small t.0

      module _ (r : ℕ) (hr : IsGcd (unsigned_abs (a *ℤ pos o +ℤ c *ℤ pos u)) g r) (n : ℤ) (m : ℕ) (en : n *ℤ pos r ≡ a *ℤ pos o +ℤ c *ℤ pos u) (em : m * r ≡ u * d) where
        r_some : 0 < r
        r_some = some_rest x y a c b d w.ea w.eb w.ha w.ec w.ed w.hc g w.hg o u w.eo w.eu r hr n m en em

        m_some : 0 < m
        m_some =
            let e : u * g ≡ b = u_is x y a c b d w.ea w.eb w.ha w.ec w.ed w.hc g w.hg o u w.eo w.eu in
            let some_u : 0 < u = factor_some u g (rw e w.ha.positive) in
            factor_some m r (rw em (mul-pos some_u w.hc.positive))

        n_small : unsigned_abs n < 2 ^ 127
        n_small =
            let e : unsigned_abs n * r ≡ unsigned_abs (a *ℤ pos o +ℤ c *ℤ pos u) = sym (unsigned_abs-mul n (pos r)) ∙ ap unsigned_abs en in
            let l : unsigned_abs n ≤ unsigned_abs n * r = le-mul_of_pos_right _ r_some in
            omega (arith, total_small)

        m_small : m < 2 ^ 127
        m_small =
            let l : m ≤ m * r = le-mul_of_pos_right _ r_some in
            omega (arith, t.0)

        lowest : AreLowest n m
        lowest =
            record {
              positive = m_some;
              lowest = sum_coprime x y a c b d w.ea w.eb w.ha w.ec w.ed w.hc g w.hg o u w.eo w.eu r hr n m en em;
              over_small = n_small;
              under_small = m_small;
            }

        is_sum : ratio n m ≡ x +ℚ y
        is_sum = sum_ratio x y a c b d w.ea w.eb w.ha w.ec w.ed w.hc g w.hg o u w.eo w.eu r hr n m en em m_some

      -- the denominators have nothing in common: nothing is left to take out
      module _ (e : g ≡ 1) where
        short : IsGcd (unsigned_abs (a *ℤ pos o +ℤ c *ℤ pos u)) g 1
        short = subst (λ k. IsGcd (unsigned_abs (a *ℤ pos o +ℤ c *ℤ pos u)) k 1) (sym e) (gcd_one _)

        once : (a *ℤ pos o +ℤ c *ℤ pos u) *ℤ pos 1 ≡ a *ℤ pos o +ℤ c *ℤ pos u
        once = times_one (a *ℤ pos o +ℤ c *ℤ pos u)

        common_once : common * 1 ≡ u * d
        common_once = omega (arith, t.1)

        pub short_lowest : AreLowest (read total) common
        short_lowest = rw total_is (lowest 1 short (a *ℤ pos o +ℤ c *ℤ pos u) common once common_once)

        pub short_ratio : ratio (read total) common ≡ x +ℚ y
        short_ratio = rw total_is (is_sum 1 short (a *ℤ pos o +ℤ c *ℤ pos u) common once common_once)

      module _ {ru r : ℕ} (er : ru ≡ unsigned_abs (read total)) (hr : IsGcd ru g r) where
        rest_gcd : IsGcd (unsigned_abs (a *ℤ pos o +ℤ c *ℤ pos u)) g r
        rest_gcd = subst (λ k. IsGcd k g r) (er ∙ ap unsigned_abs total_is) hr

        divisor_is_some : 0 < g
        divisor_is_some = some x y a c b d w.ea w.eb w.ha w.ec w.ed w.hc g w.hg o u w.eo w.eu

        pub rest_is_some : 0 < r
        rest_is_some = positive_from_IsGcd ru g r divisor_is_some hr

        pub rest_small : r < 2 ^ 127
        rest_small =
            let p' : r ≤ g = gcd_below ru g r divisor_is_some hr in
            let q' : g ≤ d = gcd_below b d g w.hc.positive w.hg in
            omega (arith, w.hc.under_small)

        module _ {n : ℤ} {last : ℕ} (en : n ≡ int_div (read total) (pos r)) (el : last ≡ d / r) where
          over_exact : n *ℤ pos r ≡ a *ℤ pos o +ℤ c *ℤ pos u
          over_exact =
              let e : n ≡ int_div (a *ℤ pos o +ℤ c *ℤ pos u) (pos r) = rw total_is at en in
              ap (λ k. k *ℤ pos r) e ∙ exact_quotient (a *ℤ pos o +ℤ c *ℤ pos u) r rest_gcd.0

          under_exact : u * last * r ≡ u * d
          under_exact =
              let e : last * r ≡ d = ap (λ k. k * r) el ∙ div-mul_cancel r (dvd_trans r hr.1 w.hg.1) in
              omega (arith, ap (λ k. u * k) e)

          read_is : read n ≡ n
          read_is = kept n (lowest r rest_gcd n (u * last) over_exact under_exact).over_small

          pub last_fits : Fits w128 (u * last)
          last_fits =
              let small : u * last < 2 ^ 127 = (lowest r rest_gcd n (u * last) over_exact under_exact).under_small in
              omega (arith, small)

          pub last_lowest : AreLowest (read n) (u * last)
          last_lowest = rw read_is (lowest r rest_gcd n (u * last) over_exact under_exact)

          pub last_ratio : ratio (read n) (u * last) ≡ x +ℚ y
          last_ratio = rw read_is (is_sum r rest_gcd n (u * last) over_exact under_exact)
