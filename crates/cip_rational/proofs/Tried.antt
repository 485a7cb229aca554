-- The definitions tried on values.
use Rattle.std.proofs.Common.{◌≡◌, ℕ, ◌+◌, ◌-◌, ◌*◌, ◌/◌, ◌^◌, Bool, true, false, not, ◌&&◌, ◌||◌, nat_lt, nat_le, ◌+ℤ◌, ◌*ℤ◌, lit<, ℤ, pos, negsuc, refl, sym, ap, ◌∙◌, zero-lt-suc}
use Rattle.cip_rational.specs.Gcd.{gcd}
use Rattle.cip_rational.specs.Rational.{ℚ, ◌*ℚ◌, ratio, integer, numerator, denominator, floor, ceil}
use Rattle.cip_rational.proofs.Rational.Lowest.{numerator-ratio, denominator-ratio, numerator-integer, denominator-integer}
use Rattle.cip_rational.proofs.Rational.Whole.{floor-ratio, ceil-ratio}
use Rattle.cip_rational.specs.Range.{largest, magnitude, too_large, fits_range, sum_overflows, product_overflows}
use Rattle.cip_rational.proofs.Rational.Ratio.{ratio-mul, ratio_same, integer_ratio}
use Rattle.cip_rational.proofs.Rational.Rounding.{integer-mul}

-- -1 / 2 lies between -1 and 0
pub floor_half : floor (ratio (negsuc 0) 2) ≡ negsuc 0
floor_half = floor-ratio (negsuc 0) 2 (zero-lt-suc 1)

pub ceil_half : ceil (ratio (negsuc 0) 2) ≡ pos 0
ceil_half = ceil-ratio (negsuc 0) 2 (zero-lt-suc 1)

-- ---- sums

-- whether the sum of y / d and z / e overflows, both in lowest terms
abbrev formed : ℤ → ℕ → ℤ → ℕ → Bool
formed y d z e =
    too_large (y *ℤ pos (e / gcd d e)) || too_large (z *ℤ pos (d / gcd d e)) || too_large (y *ℤ pos (e / gcd d e) +ℤ z *ℤ pos (d / gcd d e)) || nat_lt largest (d / gcd d e * e)

sum_formed : (a b : ℚ) (y z : ℤ) (d e : ℕ) → numerator a ≡ y → denominator a ≡ d → numerator b ≡ z → denominator b ≡ e → sum_overflows a b ≡ formed y d z e
unfolding sum_overflows
sum_formed a b y z d e p q r s = rw (p, q, r, s) refl

-- the numerators of two whole numbers of 2 ^ 126 add up to 2 ^ 127, one too many
pub whole_sum : sum_overflows (integer (pos (2 ^ 126))) (integer (pos (2 ^ 126))) ≡ true
unfolding gcd
whole_sum = sum_formed _ _ (pos (2 ^ 126)) (pos (2 ^ 126)) 1 1 (numerator-integer _) (denominator-integer _) (numerator-integer _) (denominator-integer _)

-- one less does not overflow
pub whole_sum_fits : sum_overflows (integer (pos (2 ^ 126))) (integer (pos (2 ^ 126 - 1))) ≡ false
unfolding gcd
whole_sum_fits = sum_formed _ _ (pos (2 ^ 126)) (pos (2 ^ 126 - 1)) 1 1 (numerator-integer _) (denominator-integer _) (numerator-integer _) (denominator-integer _)

-- (2 ^ 127 - 1) / 2 twice: the sum is whole, and overflows before it is reduced
pub large_halves : sum_overflows (ratio (pos largest) 2) (ratio (pos largest) 2) ≡ true
unfolding gcd
large_halves =
    let n : numerator (ratio (pos largest) 2) ≡ pos largest = numerator-ratio (pos largest) 2 (zero-lt-suc 1) in
    let d : denominator (ratio (pos largest) 2) ≡ 2 = denominator-ratio (pos largest) 2 (zero-lt-suc 1) in
    sum_formed _ _ (pos largest) (pos largest) 2 2 n d n d

-- 1 / 2 ^ 64 and 1 / (2 ^ 64 + 1): the common denominator is too large
pub denominators : sum_overflows (ratio (pos 1) (2 ^ 64)) (ratio (pos 1) (2 ^ 64 + 1)) ≡ true
unfolding gcd
denominators =
    sum_formed _ _ (pos 1) (pos 1) (2 ^ 64) (2 ^ 64 + 1)
    (numerator-ratio (pos 1) (2 ^ 64) (lit< tt)) (denominator-ratio (pos 1) (2 ^ 64) (lit< tt))
    (numerator-ratio (pos 1) (2 ^ 64 + 1) (lit< tt)) (denominator-ratio (pos 1) (2 ^ 64 + 1) (lit< tt))

-- 1 / 2 + 1 / 3 does not overflow, and is 5 / 6
pub small_sum : sum_overflows (ratio (pos 1) 2) (ratio (pos 1) 3) ≡ false
unfolding gcd
small_sum =
    sum_formed _ _ (pos 1) (pos 1) 2 3
    (numerator-ratio (pos 1) 2 (lit< tt)) (denominator-ratio (pos 1) 2 (lit< tt))
    (numerator-ratio (pos 1) 3 (lit< tt)) (denominator-ratio (pos 1) 3 (lit< tt))

-- ---- products

abbrev within : ℤ → ℕ → Bool
within y d = nat_le (magnitude y) largest && nat_le d largest

fits_within : (a : ℚ) (y : ℤ) (d : ℕ) → numerator a ≡ y → denominator a ≡ d → fits_range a ≡ within y d
unfolding fits_range
fits_within a y d p q = rw (p, q) refl

-- (2 ^ 127 - 1) / 2 times 2 / (2 ^ 127 - 1) is 1, and does not overflow
pub cancelled : product_overflows (ratio (pos largest) 2) (ratio (pos 2) largest) ≡ false
unfolding product_overflows
cancelled = ap (λ q. not (fits_range q)) one_value ∙ ap not (fits_within (integer (pos 1)) (pos 1) 1 (numerator-integer (pos 1)) (denominator-integer (pos 1)))
  where
    one_value : ratio (pos largest) 2 *ℚ ratio (pos 2) largest ≡ integer (pos 1)
    one_value =
        ratio-mul (pos largest) (pos 2) 2 largest (lit< tt) (lit< tt)
        ∙ ratio_same (pos largest *ℤ pos 2) (pos 1) (2 * largest) 1 (lit< tt) (lit< tt) refl
        ∙ integer_ratio (pos 1)

-- 2 ^ 64 times 2 ^ 63 is 2 ^ 127
pub large_product : product_overflows (integer (pos (2 ^ 64))) (integer (pos (2 ^ 63))) ≡ true
unfolding product_overflows
large_product =
    ap (λ q. not (fits_range q)) (sym (integer-mul (pos (2 ^ 64)) (pos (2 ^ 63))))
    ∙ ap not (fits_within (integer (pos (2 ^ 127))) (pos (2 ^ 127)) 1 (numerator-integer (pos (2 ^ 127))) (denominator-integer (pos (2 ^ 127))))
