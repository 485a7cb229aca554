-- What the tests of the range say, and the fraction that a sum forms.
use native.Mathlib.Nat.{mul-pos, mul-div_cancel', div-le_self, eq-zero-or-pos}
use borrow.Author.Differences.{up, down, product_is, sum_is_lem, same_in, abs_is, quot_is}
use Rattle.std.proofs.Common.{◌≡◌, inl, inr, ℕ, ◌+◌, ◌*◌, ◌/◌, ◌<◌, ◌≤◌, Bool, true, false, not, ◌&&◌, ◌||◌, nat_lt, nat_le, ℤ, pos, int_div, unsigned_abs, ◌+ℤ◌, ◌*ℤ◌, refl, sym, ap, ap₂, ◌∙◌, arith, leb-true, le-leb, ltb-false, le-ltb, lit<, lit≤}
use Rattle.cip_rational.specs.Gcd.{gcd, gcd_lem, gcd-pos}
use Rattle.cip_rational.specs.OnFractions.{parts_apart}
use Rattle.cip_rational.specs.Range.{largest, magnitude, fits_range, too_large, raised, sum_overflows, product_overflows}
use Rattle.cip_rational.specs.Rational.{ℚ, ◌+ℚ◌, ◌*ℚ◌, numerator, denominator, ratio, integer, zeroℚ, is_ratio}
use Rattle.cip_rational.proofs.Rational.Ratio.{ratio-add, ratio-cancel, integer_ratio}
use Rattle.cip_rational.proofs.Rational.Rounding.{integer-zero}
use Rattle.cip_rational.proofs.Rational.Lowest.{denominator-pos, numerator-ratio, denominator-ratio}

-- ---- the range

-- numerator and denominator are at most `largest`
pub record Fits (q : ℚ) : Type 0 where
  pub top : magnitude (numerator q) ≤ largest
  pub bottom : denominator q ≤ largest

-- tests joined by `&&` and `||`
both_out : (s t : Bool) → s && t ≡ true → (s ≡ true) × (t ≡ true)
both_out true true e = (refl, refl)
both_out true false e = absurd (cc)
both_out false true e = absurd (cc)
both_out false false e = absurd (cc)

neither_out : (s t : Bool) → s || t ≡ false → (s ≡ false) × (t ≡ false)
neither_out false false e = (refl, refl)
neither_out true t e = absurd (cc)
neither_out false true e = absurd (cc)

neither_in : (s t : Bool) → s ≡ false → t ≡ false → s || t ≡ false
neither_in s t e f = ap₂ (λ u v. u || v) e f

pub fits_out : (q : ℚ) → fits_range q ≡ true → Fits q
unfolding fits_range
fits_out q e =
    let b = both_out (nat_le (magnitude (numerator q)) largest) (nat_le (denominator q) largest) e in
    record { top = leb-true _ _ b.0; bottom = leb-true _ _ b.1 }

pub fits_in : (q : ℚ) → Fits q → fits_range q ≡ true
unfolding fits_range
fits_in q f = ap₂ (λ s t. s && t) (le-leb (magnitude (numerator q)) largest f.top) (le-leb (denominator q) largest f.bottom)

-- lowest terms are no larger than the terms
pub lowest-le : (z : ℤ) (d : ℕ) → 0 < d → (magnitude (numerator (ratio z d)) ≤ magnitude z) × (denominator (ratio z d) ≤ d)
lowest-le z d h =
    let g = gcd (unsigned_abs z) d in
    let q = quot_is z g in
    let w = int_div z (pos g) in
    let l : unsigned_abs w ≤ unsigned_abs z = omega (arith, abs_is w, abs_is z, parts_apart z, parts_apart w, q, div-le_self (up z) g, div-le_self (down z) g) in
    rw (numerator-ratio z d h, denominator-ratio z d h) (l, div-le_self d g)

pub fits-ratio : (z : ℤ) (d : ℕ) → 0 < d → magnitude z ≤ largest → d ≤ largest → Fits (ratio z d)
fits-ratio z d h p q = let l = lowest-le z d h in record { top = omega (arith, l, p); bottom = omega (arith, l, q) }

pub fits-integer : (z : ℤ) → magnitude z ≤ largest → fits_range (integer z) ≡ true
fits-integer z h = ap fits_range (sym (integer_ratio z)) ∙ fits_in _ (fits-ratio z 1 (lit< tt) h (lit≤ tt))

pub fits-zero : fits_range zeroℚ ≡ true
fits-zero = ap fits_range (sym integer-zero) ∙ fits-integer (pos 0) (lit≤ tt)

-- ---- sums

-- the least common denominator
abbrev pub least_common : ℚ → ℚ → ℕ
least_common a b = denominator a / gcd (denominator a) (denominator b) * denominator b

-- the four numbers that a sum forms are in the range
pub record SumFits (a b : ℚ) : Type 0 where
  pub left : magnitude (raised (gcd (denominator a) (denominator b)) a b) ≤ largest
  pub right : magnitude (raised (gcd (denominator a) (denominator b)) b a) ≤ largest
  pub total : magnitude (raised (gcd (denominator a) (denominator b)) a b +ℤ raised (gcd (denominator a) (denominator b)) b a) ≤ largest
  pub bottom : least_common a b ≤ largest

pub sum_out : (a b : ℚ) → sum_overflows a b ≡ false → SumFits a b
unfolding sum_overflows
sum_out a b e =
    let g : ℕ = gcd (denominator a) (denominator b) in
    let left : Bool = too_large (raised g a b) in
    let right : Bool = too_large (raised g b a) in
    let total : Bool = too_large (raised g a b +ℤ raised g b a) in
    let p = neither_out (left || right || total) (nat_lt largest (least_common a b)) e in
    let q = neither_out (left || right) total p.0 in
    let r = neither_out left right q.0 in
    record { left = ltb-false _ _ r.0; right = ltb-false _ _ r.1; total = ltb-false _ _ q.1; bottom = ltb-false _ _ p.1 }

pub sum_in : (a b : ℚ) → SumFits a b → sum_overflows a b ≡ false
unfolding sum_overflows
sum_in a b f =
    let g : ℕ = gcd (denominator a) (denominator b) in
    neither_in _ _
    (neither_in _ _
    (neither_in _ _ (le-ltb largest (magnitude (raised g a b)) f.left) (le-ltb largest (magnitude (raised g b a)) f.right))
    (le-ltb largest (magnitude (raised g a b +ℤ raised g b a)) f.total))
    (le-ltb largest (least_common a b) f.bottom)

factor_pos : (g k n : ℕ) → g * k ≡ n → 0 < n → 0 < k
factor_pos g k n e h = elim (eq-zero-or-pos k) [ inl z ↦ absurd (omega (arith, h, e, ap (λ t. g * t) z)) | inr p ↦ p ]

raised_same : (y z : ℤ) (g d e : ℕ) → 0 < g → 0 < d → 0 < e → ratio (y *ℤ pos (g * e) +ℤ z *ℤ pos (g * d)) (g * d * (g * e)) ≡ ratio (y *ℤ pos e +ℤ z *ℤ pos d) (d * (g * e))
raised_same y z g d e p q r =
    let s = y *ℤ pos e +ℤ z *ℤ pos d in
    let t = y *ℤ pos (g * e) +ℤ z *ℤ pos (g * d) in
    let a : up s + down y * e + down z * d ≡ down s + up y * e + up z * d = omega (arith, sum_is_lem (y *ℤ pos e) (z *ℤ pos d), product_is y (pos e), product_is z (pos d)) in
    let b : up t + down y * (g * e) + down z * (g * d) ≡ down t + up y * (g * e) + up z * (g * d) = omega (arith, sum_is_lem (y *ℤ pos (g * e)) (z *ℤ pos (g * d)), product_is y (pos (g * e)), product_is z (pos (g * d))) in
    let m : t ≡ s *ℤ pos g = same_in t (s *ℤ pos g) (omega (arith, b, ap (λ n. n * g) a, product_is s (pos g))) in
    let n : g * d * (g * e) ≡ d * (g * e) * g = omega arith in
    ap₂ ratio m n ∙ ratio-cancel s (d * (g * e)) g (mul-pos q (mul-pos p r)) p

-- a sum is the sum of the raised numerators over the least common denominator
pub sum_raised : (a b : ℚ) → a +ℚ b ≡ ratio (raised (gcd (denominator a) (denominator b)) a b +ℤ raised (gcd (denominator a) (denominator b)) b a) (least_common a b)
sum_raised a b =
    let d = denominator a in
    let e = denominator b in
    let g = gcd d e in
    let x : g * (d / g) ≡ d = mul-div_cancel' g (gcd_lem d e).0 in
    let y : g * (e / g) ≡ e = mul-div_cancel' g (gcd_lem d e).1 in
    let p = denominator-pos a in
    let q = denominator-pos b in
    ap₂ (λ s t. s +ℚ t) (sym (is_ratio a)) (sym (is_ratio b))
    ∙ ratio-add (numerator a) (numerator b) d e p q
    ∙ ap₂ (λ (m n : ℕ). ratio (numerator a *ℤ pos n +ℤ numerator b *ℤ pos m) (m * n)) (sym x) (sym y)
    ∙ raised_same (numerator a) (numerator b) g (d / g) (e / g) (gcd-pos d e q) (factor_pos g (d / g) d x p) (factor_pos g (e / g) e y q)
    ∙ ap (λ (n : ℕ). ratio (raised g a b +ℤ raised g b a) (d / g * n)) y

least_common_pos : (a b : ℚ) → 0 < least_common a b
least_common_pos a b =
    let d = denominator a in
    let e = denominator b in
    let g = gcd d e in
    mul-pos (factor_pos g (d / g) d (mul-div_cancel' g (gcd_lem d e).0) (denominator-pos a)) (denominator-pos b)

-- a sum that does not overflow is in the range
pub sum_fits : (a b : ℚ) → sum_overflows a b ≡ false → fits_range (a +ℚ b) ≡ true
sum_fits a b e =
    let f = sum_out a b e in
    ap fits_range (sum_raised a b) ∙ fits_in _ (fits-ratio _ (least_common a b) (least_common_pos a b) f.total f.bottom)

-- ---- products

pub fits_product : (a b : ℚ) → fits_range (a *ℚ b) ≡ true → product_overflows a b ≡ false
unfolding product_overflows
fits_product a b e = ap not e
