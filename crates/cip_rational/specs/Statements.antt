-- The main laws, each as one statement: the functions of `src/lib.rt` have them as contracts.
use Rattle.std.specs.Prelude.{◌≡◌, ◌⊎◌, ℕ, ◌<◌, ◌*◌, ◌+◌, ◌-◌, ◌^◌, ℤ, pos, negsuc, ◌+ℤ◌, ◌*ℤ◌, ◌≤ℤ◌, true, false, unsigned_abs, List}
use Rattle.std.specs.Int.{IsGcd}
use Rattle.std.specs.Cmp.{IsTotalOrder}
use Rattle.cip_rational.specs.Rational.{ℚ, ◌+ℚ◌, ◌*ℚ◌, negate, inverse, zeroℚ, oneℚ, integer, ratio, numerator, denominator, ◌≤ℚ◌, ◌<ℚ◌, floor, ceil, IsWhole, compare_rational}
use Rattle.cip_rational.specs.Range.{largest, fits_range, sum_overflows, product_overflows}
use Rattle.cip_rational.specs.Sums.{dot, combine, products_of, AllNonneg, AllAtMost}

-- the rationals are an ordered field
pub record OrderedField : Type 0 where
  pub add_comm : (a b : ℚ) → a +ℚ b ≡ b +ℚ a
  pub add_assoc : (a b c : ℚ) → a +ℚ b +ℚ c ≡ a +ℚ (b +ℚ c)
  pub add_zero : (a : ℚ) → a +ℚ zeroℚ ≡ a
  pub add_negate : (a : ℚ) → a +ℚ negate a ≡ zeroℚ
  pub mul_comm : (a b : ℚ) → a *ℚ b ≡ b *ℚ a
  pub mul_assoc : (a b c : ℚ) → a *ℚ b *ℚ c ≡ a *ℚ (b *ℚ c)
  pub mul_one : (a : ℚ) → a *ℚ oneℚ ≡ a
  pub mul_add : (a b c : ℚ) → a *ℚ (b +ℚ c) ≡ a *ℚ b +ℚ a *ℚ c
  pub mul_inverse : (a : ℚ) → ¬ (a ≡ zeroℚ) → a *ℚ inverse a ≡ oneℚ
  pub one_is_not_zero : ¬ (oneℚ ≡ zeroℚ)
  pub le_total : (a b : ℚ) → (a ≤ℚ b) ⊎ (b ≤ℚ a)
  pub le_trans : (a b c : ℚ) → a ≤ℚ b → b ≤ℚ c → a ≤ℚ c
  pub le_antisymm : (a b : ℚ) → a ≤ℚ b → b ≤ℚ a → a ≡ b
  pub lt_is_not_le : (a b : ℚ) → (a <ℚ b → ¬ (b ≤ℚ a)) × (¬ (b ≤ℚ a) → a <ℚ b)
  pub add_mono : (a b c : ℚ) → a ≤ℚ b → a +ℚ c ≤ℚ b +ℚ c
  pub mul_nonneg : (a b : ℚ) → zeroℚ ≤ℚ a → zeroℚ ≤ℚ b → zeroℚ ≤ℚ a *ℚ b

-- sums, products and the order of ratios are those of schoolbook fractions
pub record RatiosAreFractions : Type 0 where
  pub sum : (a c : ℤ) (b d : ℕ) → 0 < b → 0 < d
      → ratio a b +ℚ ratio c d ≡ ratio (a *ℤ pos d +ℤ c *ℤ pos b) (b * d)
  pub product : (a c : ℤ) (b d : ℕ) → 0 < b → 0 < d → ratio a b *ℚ ratio c d ≡ ratio (a *ℤ c) (b * d)
  pub order : (a c : ℤ) (b d : ℕ) → 0 < b → 0 < d
      → (ratio a b ≤ℚ ratio c d → (a *ℤ pos d) ≤ℤ (c *ℤ pos b))
      × ((a *ℤ pos d) ≤ℤ (c *ℤ pos b) → ratio a b ≤ℚ ratio c d)
  pub equality : (a c : ℤ) (b d : ℕ) → 0 < b → 0 < d
      → (ratio a b ≡ ratio c d → a *ℤ pos d ≡ c *ℤ pos b)
      × (a *ℤ pos d ≡ c *ℤ pos b → ratio a b ≡ ratio c d)

-- numerator and denominator are the lowest terms, and there are no others
pub record LowestTerms : Type 0 where
  pub value : (q : ℚ) → ratio (numerator q) (denominator q) ≡ q
  pub positive : (q : ℚ) → 0 < denominator q
  pub coprime : (q : ℚ) → IsGcd (unsigned_abs (numerator q)) (denominator q) 1
  pub unique : (z : ℤ) (d : ℕ) → 0 < d → IsGcd (unsigned_abs z) d 1
      → (numerator (ratio z d) ≡ z) × (denominator (ratio z d) ≡ d)

-- the floor is the greatest whole number below, and the ceiling the least above
pub record Rounding : Type 0 where
  pub floor_le : (q : ℚ) → integer (floor q) ≤ℚ q
  pub floor_greatest : (q : ℚ) (z : ℤ) → integer z ≤ℚ q → z ≤ℤ floor q
  pub le_ceil : (q : ℚ) → q ≤ℚ integer (ceil q)
  pub ceil_least : (q : ℚ) (z : ℤ) → q ≤ℚ integer z → ceil q ≤ℤ z
  pub gap : (a b : ℚ) → IsWhole a → IsWhole b → a <ℚ b → a +ℚ oneℚ ≤ℚ b

-- what a comparison answers is a total order
abbrev pub ComparisonIsTotal : Type 0
ComparisonIsTotal = IsTotalOrder compare_rational

-- a sum that does not overflow is in the range
abbrev pub SumsStayInRange : Type 0
SumsStayInRange = (a b : ℚ) → sum_overflows a b ≡ false → fits_range (a +ℚ b) ≡ true

-- a sum with 0 of a number in the range, and a product with 0, does not overflow
pub record ZeroNeverOverflows : Type 0 where
  pub sum_right : (a : ℚ) → fits_range a ≡ true → sum_overflows a zeroℚ ≡ false
  pub sum_left : (a : ℚ) → fits_range a ≡ true → sum_overflows zeroℚ a ≡ false
  pub product_right : (a : ℚ) → product_overflows a zeroℚ ≡ false
  pub product_left : (a : ℚ) → product_overflows zeroℚ a ≡ false

-- where each row times x is at most its bound, so is each combination of rows by numbers that are not negative
abbrev pub CombinationsHold : Type 0
CombinationsHold =
    (ys : List ℚ) (rows : List (List ℚ)) (bounds x : List ℚ)
    → AllNonneg ys → AllAtMost (products_of rows x) bounds → dot (combine ys rows) x ≤ℚ dot ys bounds

-- the definitions of overflow, floor and ceiling at values
pub record Values : Type 0 where
  pub whole_sum : sum_overflows (integer (pos (2 ^ 126))) (integer (pos (2 ^ 126))) ≡ true
  pub whole_sum_fits : sum_overflows (integer (pos (2 ^ 126))) (integer (pos (2 ^ 126 - 1))) ≡ false
  pub large_halves : sum_overflows (ratio (pos largest) 2) (ratio (pos largest) 2) ≡ true
  pub denominators : sum_overflows (ratio (pos 1) (2 ^ 64)) (ratio (pos 1) (2 ^ 64 + 1)) ≡ true
  pub small_sum : sum_overflows (ratio (pos 1) 2) (ratio (pos 1) 3) ≡ false
  pub cancelled : product_overflows (ratio (pos largest) 2) (ratio (pos 2) largest) ≡ false
  pub large_product : product_overflows (integer (pos (2 ^ 64))) (integer (pos (2 ^ 63))) ≡ true
  pub floor_half : floor (ratio (negsuc 0) 2) ≡ negsuc 0
  pub ceil_half : ceil (ratio (negsuc 0) 2) ≡ pos 0
