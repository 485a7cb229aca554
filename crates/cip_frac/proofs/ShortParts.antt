-- Sums and products of numbers whose terms are below 2^63: none of the numbers that they form is too large.
use native.Mathlib.Nat.{div-le_self}
use Rattle.std.proofs.Common.{◌≡◌, ℕ, ◌*◌, ◌/◌, ◌<◌, ◌≤◌, ◌^◌, ℤ, pos, ◌+ℤ◌, ◌*ℤ◌, unsigned_abs, int_div, FitsSigned, false, to_z, sym, ap, ap₂, subst, ◌∙◌, refl, arith}
use Rattle.std.specs.Int.{IsGcd, w64, w128}
use Rattle.std.proofs.lemmas.Int.{ints, to_z-of_z, unsigned_abs-mul, fits_signed_from_abs}
use Rattle.cip_rational.specs.Rational.{ℚ, ◌+ℚ◌, ◌*ℚ◌, ratio}
use Rattle.cip_rational.specs.Range.{sum_overflows, product_overflows}
use Rattle.cip_rational.proofs.Rational.Lowest.{denominator-pos, IsGcd-lowest_terms}
use Rattle.cip_frac.specs.LowestTerms.{AreLowest}
use Rattle.cip_frac.proofs.Casts.{kept}
use Rattle.cip_frac.proofs.Divisors.{positive_from_IsGcd, gcd_below}
use Rattle.cip_frac.proofs.Products.{Parts}
use Rattle.cip_frac.proofs.Products as products
use Rattle.cip_frac.proofs.SumSteps.{read, Known, known}
use Rattle.cip_frac.proofs.SumSteps as sums
use Rattle.cip_frac.proofs.ShortSums.{word, word_size, natural_word, small_square, AreShort}

sum_small : (y z : ℤ) → unsigned_abs y < 2 ^ 126 → unsigned_abs z < 2 ^ 126 → unsigned_abs (y +ℤ z) < 2 ^ 127
sum_small y z p q = omega (arith, ints, p, q)

scaled_small : (a : ℤ) (o : ℕ) → unsigned_abs a ≤ 2 ^ 63 → o < 2 ^ 63 → unsigned_abs (a *ℤ pos o) < 2 ^ 126
scaled_small a o p q = rw (unsigned_abs-mul a (pos o)) (small_square (unsigned_abs a) o p q)

-- two products of integers of 64 bits
module _ (a c : ℤ) (o u : ℕ) (fa : FitsSigned w64 a) (fc : FitsSigned w64 c) (so : o < 2 ^ 63) (su : u < 2 ^ 63) (first second : ℤ) (ef : first ≡ word a *ℤ to_z w64 o) (es : second ≡ word c *ℤ to_z w64 u) where
  first_small : unsigned_abs (a *ℤ pos o) < 2 ^ 126
  first_small = scaled_small a o (word_size a fa) so

  second_small : unsigned_abs (c *ℤ pos u) < 2 ^ 126
  second_small = scaled_small c u (word_size c fc) su

  first_is : read first ≡ a *ℤ pos o
  first_is = ap read (ef ∙ ap₂ (λ y z. y *ℤ z) (to_z-of_z w64 a fa) (natural_word o so)) ∙ kept (a *ℤ pos o) (omega (arith, first_small))

  second_is : read second ≡ c *ℤ pos u
  second_is = ap read (es ∙ ap₂ (λ y z. y *ℤ z) (to_z-of_z w64 c fc) (natural_word u su)) ∙ kept (c *ℤ pos u) (omega (arith, second_small))

  total_small : unsigned_abs (a *ℤ pos o +ℤ c *ℤ pos u) < 2 ^ 127
  total_small = sum_small (a *ℤ pos o) (c *ℤ pos u) first_small second_small

  pub cross_fits : FitsSigned w128 (read first +ℤ read second)
  cross_fits = rw (first_is, second_is) (fits_signed_from_abs w128 (a *ℤ pos o +ℤ c *ℤ pos u) total_small)

  pub cross_is : read (read first +ℤ read second) ≡ a *ℤ pos o +ℤ c *ℤ pos u
  cross_is = rw (first_is, second_is) (kept (a *ℤ pos o +ℤ c *ℤ pos u) total_small)

-- short terms are lowest terms
pub lowest_of : (x : ℚ) (a : ℤ) (b : ℕ) → AreShort x a b → AreLowest a b
lowest_of x a b h =
    record {
      positive = rw h.1 (denominator-pos x);
      lowest = rw (h.0, h.1) (IsGcd-lowest_terms x);
      over_small = rw h.0 (omega (arith, h.2));
      under_small = omega (arith, h.3);
    }

-- ---- products

module _ (x y : ℚ) (a c : ℤ) (b d g h k l : ℕ) (hx : AreShort x a b) (hy : AreShort y c d) (ka : word a ≡ a) (kc : word c ≡ c) (ek : k ≡ unsigned_abs (word a)) (hg : IsGcd k d g) (el : l ≡ unsigned_abs (word c)) (hh : IsGcd l b h) where
  parts : Parts x y a c b d g h
  parts =
      record {
        ea = hx.0;
        eb = hx.1;
        ha = lowest_of x a b hx;
        ec = hy.0;
        ed = hy.1;
        hc = lowest_of y c d hy;
        hg = subst (λ n. IsGcd n d g) (ek ∙ ap unsigned_abs ka) hg;
        hh = subst (λ n. IsGcd n b h) (el ∙ ap unsigned_abs kc) hh;
      }

  pub g_some : 0 < g
  g_some = products.first_some parts

  pub h_some : 0 < h
  h_some = products.second_some parts

  pub g_short : g < 2 ^ 63
  g_short = let e : g ≤ d = gcd_below k d g (lowest_of y c d hy).positive hg in omega (arith, e, hy.3)

  pub h_short : h < 2 ^ 63
  h_short = let e : h ≤ b = gcd_below l b h (lowest_of x a b hx).positive hh in omega (arith, e, hx.3)

  module _ (p q n : ℤ) (u o m : ℕ) (ep : p ≡ int_div (word a) (pos g)) (eq : q ≡ int_div (word c) (pos h)) (kp : word p ≡ p) (kq : word q ≡ q) (en : n ≡ word p *ℤ word q) (small : unsigned_abs (word p *ℤ word q) < 2 ^ 127) (eu : u ≡ b / h) (eo : o ≡ d / g) (em : m ≡ u * o) where
    p_is : p ≡ int_div (read a) (pos g)
    p_is = ep ∙ ap (λ z. int_div z (pos g)) (ka ∙ sym (kept a (lowest_of x a b hx).over_small))

    q_is : q ≡ int_div (read c) (pos h)
    q_is = eq ∙ ap (λ z. int_div z (pos h)) (kc ∙ sym (kept c (lowest_of y c d hy).over_small))

    kept_p : read p ≡ word p
    kept_p = products.p_read parts p_is q_is ∙ sym kp

    kept_q : read q ≡ word q
    kept_q = products.q_read parts p_is q_is ∙ sym kq

    over_fits : (unsigned_abs (read p) * unsigned_abs (read q) < 2 ^ 127) × (n ≡ read p *ℤ read q)
    over_fits = rw (kept_p, kept_q) (rw (unsigned_abs-mul (word p) (word q)) at small, en)

    under_fits : (u * o < 2 ^ 127) × (m ≡ u * o)
    under_fits =
        let e : b / h ≤ b = div-le_self b h in
        let f : d / g ≤ d = div-le_self d g in
        let s : u * o < 2 ^ 126 = small_square u o (omega (arith, e, eu, hx.3)) (omega (arith, f, eo, hy.3)) in
        (omega (arith, s), em)

    pub product_fits : product_overflows x y ≡ false
    product_fits = products.all_fit parts p_is q_is eu eo over_fits under_fits

    pub product_lowest : AreLowest (read n) m
    product_lowest = products.lowest parts p_is q_is eu eo over_fits under_fits

    pub product_is : ratio (read n) m ≡ x *ℚ y
    product_is = products.is_product parts p_is q_is eu eo over_fits under_fits

-- ---- sums

module _ (x y : ℚ) (a c : ℤ) (b d g o u : ℕ) (hx : AreShort x a b) (hy : AreShort y c d) (ka : word a ≡ a) (kc : word c ≡ c) (hg : IsGcd b d g) (eo : o ≡ d / g) (eu : u ≡ b / g) where
  steps : Known x y a c b d g o u
  steps = known hx.0 hx.1 (lowest_of x a b hx) hy.0 hy.1 (lowest_of y c d hy) hg eo eu

  pub common_some : 0 < g
  common_some = positive_from_IsGcd b d g (lowest_of y c d hy).positive hg

  pub over_short : o < 2 ^ 63
  over_short = let e : d / g ≤ d = div-le_self d g in omega (arith, e, eo, hy.3)

  pub under_short : u < 2 ^ 63
  under_short = let e : b / g ≤ b = div-le_self b g in omega (arith, e, eu, hx.3)

  kept_a : read a ≡ a
  kept_a = kept a (lowest_of x a b hx).over_small

  kept_c : read c ≡ c
  kept_c = kept c (lowest_of y c d hy).over_small

  left_small : unsigned_abs (a *ℤ pos o) < 2 ^ 126
  left_small = scaled_small a o (rw hx.0 hx.2) over_short

  right_small : unsigned_abs (c *ℤ pos u) < 2 ^ 126
  right_small = scaled_small c u (rw hy.0 hy.2) under_short

  left_fits : (unsigned_abs (read a) * o < 2 ^ 127) × (a *ℤ pos o ≡ read a *ℤ pos o)
  left_fits =
      let s : unsigned_abs a * o < 2 ^ 126 = small_square (unsigned_abs a) o (rw hx.0 hx.2) over_short in
      rw kept_a (omega (arith, s), refl)

  right_fits : (unsigned_abs (read c) * u < 2 ^ 127) × (c *ℤ pos u ≡ read c *ℤ pos u)
  right_fits =
      let s : unsigned_abs c * u < 2 ^ 126 = small_square (unsigned_abs c) u (rw hy.0 hy.2) under_short in
      rw kept_c (omega (arith, s), refl)

  pub denominator_fits : u * d < 2 ^ 127
  denominator_fits =
      let s : u * d < 2 ^ 126 = small_square u d (omega (arith, under_short)) hy.3 in
      omega (arith, s)

  module _ (total : ℤ) (et : total ≡ word a *ℤ pos o +ℤ word c *ℤ pos u) where
    total_fits : (unsigned_abs (read (a *ℤ pos o) +ℤ read (c *ℤ pos u)) < 2 ^ 127) × (total ≡ read (a *ℤ pos o) +ℤ read (c *ℤ pos u))
    total_fits =
        let f : read (a *ℤ pos o) ≡ a *ℤ pos o = kept (a *ℤ pos o) (omega (arith, left_small)) in
        let s : read (c *ℤ pos u) ≡ c *ℤ pos u = kept (c *ℤ pos u) (omega (arith, right_small)) in
        rw (f, s) (sum_small (a *ℤ pos o) (c *ℤ pos u) left_small right_small, rw (ka, kc) at et)

    pub sum_fits : sum_overflows x y ≡ false
    sum_fits = sums.all_fit steps left_fits right_fits total_fits (denominator_fits, refl)

    pub sum_lowest : (common : ℕ) → common ≡ u * d → g ≡ 1 → AreLowest (read total) common
    sum_lowest common ec e = sums.short_lowest steps left_fits right_fits total_fits (denominator_fits, ec) e

    pub sum_is : (common : ℕ) → common ≡ u * d → g ≡ 1 → ratio (read total) common ≡ x +ℚ y
    sum_is common ec e = sums.short_ratio steps left_fits right_fits total_fits (denominator_fits, ec) e

    module _ (k r : ℕ) (ek : k ≡ unsigned_abs (read total)) (hr : IsGcd k g r) where
      pub rest_some : 0 < r
      rest_some = sums.rest_is_some steps left_fits right_fits total_fits (denominator_fits, refl) ek hr

      pub rest_bounded : r < 2 ^ 127
      rest_bounded = sums.rest_small steps left_fits right_fits total_fits (denominator_fits, refl) ek hr

      module _ (n : ℤ) (last : ℕ) (en : n ≡ int_div (read total) (pos r)) (el : last ≡ d / r) where
        pub rest_lowest : AreLowest (read n) (u * last)
        rest_lowest = sums.last_lowest steps left_fits right_fits total_fits (denominator_fits, refl) ek hr en el

        pub rest_is : ratio (read n) (u * last) ≡ x +ℚ y
        rest_is = sums.last_ratio steps left_fits right_fits total_fits (denominator_fits, refl) ek hr en el
