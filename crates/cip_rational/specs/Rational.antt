-- The rational numbers with their operations and orders.
--     whole m n, integer z, ratio z d       the numbers m - n, z and z / d (0 where d is 0)
--     +ℚ, -ℚ, *ℚ, negate, inverse, absolute, minimum, maximum      the operations; the inverse of 0 is 0
--     ≤ℚ, <ℚ, le_test, lt_test, compare_rational      the order, and the tests that decide it
--     numerator, denominator       in lowest terms, the denominator positive
--     IsWhole, is_whole, floor, ceil       whole numbers, and those next to a rational
-- The modules below this one have the laws.
use lib.IntN.{ℤ_set}
use mathlib.Core.Bool.{Bool-set}
use native.Mathlib.Nat.{ℕ_set}
use borrow.Author.Differences.{up, down}
use Rattle.std.proofs.Common.{◌≡◌, ℕ, zero, suc, ◌<◌, Bool, not, cond, T, ◌==◌, ◌&&◌, ℤ, pos, negsuc, neg_ℤ, Ordering, Less, Equal, Greater, refl, ◌∙◌, arith, zero-lt-suc}
use Rattle.std.specs.Int.{int_div_euclid}
use Rattle.std.specs.Coded.{Coded, code_by, coded×, coded_ℤ, coded_ℕ}
use Rattle.cip_rational.specs.Fraction.{of, same_equal, ℚ_set, rational_rec, rational_rec₂, rational_ind}
use Rattle.cip_rational.specs.OnFractions.{add, multiply, opposite, fraction_at_most, lowest_numerator, lowest_denominator, add_left, add_right, multiply_left, multiply_right, opposite_same, at_most_left, at_most_right, numerator_same, denominator_same, lowest-pos, lowest-same}
pub use Rattle.cip_rational.specs.Fraction.{ℚ}

-- ---- numbers

-- m - n
unfoldable pub whole : ℕ → ℕ → ℚ
whole m n = of (record { up = m; down = n; den = 1; positive = zero-lt-suc 0 })

-- z / d, and 0 where d is 0
unfoldable pub ratio : ℤ → ℕ → ℚ
ratio z zero = whole 0 0
ratio z (suc n) = of (record { up = up z; down = down z; den = suc n; positive = zero-lt-suc n })

-- z itself
unfoldable pub integer : ℤ → ℚ
integer z = ratio z 1

-- 0
unfoldable pub zeroℚ : ℚ
zeroℚ = whole 0 0

-- 1
unfoldable pub oneℚ : ℚ
oneℚ = whole 1 0

-- ---- lowest terms

-- the numerator in lowest terms, which has the number's sign
unfoldable pub numerator : ℚ → ℤ
numerator = rational_rec ℤ_set lowest_numerator numerator_same

-- the denominator in lowest terms, which is positive
unfoldable pub denominator : ℚ → ℕ
denominator = rational_rec ℕ_set lowest_denominator denominator_same

-- ---- operations

infixl 6 ◌+ℚ◌ ◌-ℚ◌
infixl 7 ◌*ℚ◌
-- the sum, of fractions at the product of their denominators
unfoldable pub ◌+ℚ◌ : ℚ → ℚ → ℚ
◌+ℚ◌ = rational_rec₂ ℚ_set (λ x y. of (add x y)) add_left add_right

-- the product, numerators and denominators apart
unfoldable pub ◌*ℚ◌ : ℚ → ℚ → ℚ
◌*ℚ◌ = rational_rec₂ ℚ_set (λ x y. of (multiply x y)) multiply_left multiply_right

-- the number with the other sign
unfoldable pub negate : ℚ → ℚ
negate = rational_rec ℚ_set (λ x. of (opposite x)) opposite_same

-- a and the negative of b
unfoldable pub ◌-ℚ◌ : ℚ → ℚ → ℚ
a -ℚ b = a +ℚ negate b

-- d / z, and 0 where z is 0
abbrev pub reciprocal : ℤ → ℕ → ℚ
reciprocal (pos n) d = ratio (pos d) n
reciprocal (negsuc n) d = ratio (neg_ℤ (pos d)) (suc n)

-- 1 / q, and 0 where q is 0
unfoldable pub inverse : ℚ → ℚ
inverse q = reciprocal (numerator q) (denominator q)

-- ---- the order

-- whether a is at most b, by cross products
unfoldable pub le_test : ℚ → ℚ → Bool
le_test = rational_rec₂ Bool-set fraction_at_most at_most_left at_most_right

-- whether a is less than b: b is not at most a
unfoldable pub lt_test : ℚ → ℚ → Bool
lt_test a b = not (le_test b a)

-- whether a number is 0
unfoldable pub is_zero : ℚ → Bool
is_zero q = le_test q zeroℚ && le_test zeroℚ q

infix 4 ◌≤ℚ◌ ◌<ℚ◌
-- a is at most b
pub record ◌≤ℚ◌ (a b : ℚ) : Type 0 where
  pub le : T (le_test a b)

-- a is less than b
pub record ◌<ℚ◌ (a b : ℚ) : Type 0 where
  pub lt : T (lt_test a b)

-- what `cmp` answers
unfoldable pub compare_rational : ℚ → ℚ → Ordering
compare_rational a b = cond (lt_test a b) Less (cond (lt_test b a) Greater Equal)

-- how far a number is from 0
unfoldable pub absolute : ℚ → ℚ
absolute a = cond (le_test zeroℚ a) a (negate a)

-- the lesser and the greater of two numbers
abbrev pub minimum : ℚ → ℚ → ℚ
minimum a b = cond (le_test a b) a b

abbrev pub maximum : ℚ → ℚ → ℚ
maximum a b = cond (le_test a b) b a

-- ---- whole numbers

-- whether q is a whole number: its denominator is 1
unfoldable pub is_whole : ℚ → Bool
is_whole q = denominator q == 1

-- q is a whole number
pub record IsWhole (q : ℚ) : Type 0 where
  pub holds : T (is_whole q)

-- the greatest whole number that is at most q
unfoldable pub floor : ℚ → ℤ
floor q = int_div_euclid (numerator q) (pos (denominator q))

-- the least whole number that is at least q
unfoldable pub ceil : ℚ → ℤ
ceil q = neg_ℤ (floor (negate q))

-- ---- a rational is what its lowest terms say

-- a ratio is that fraction
pub ratio_of : (z : ℤ) (d : ℕ) (h : 0 < d) → ratio z d ≡ of (record { up = up z; down = down z; den = d; positive = h })
unfolding ratio
ratio_of z zero h = absurd (omega arith)
ratio_of z (suc n) h = same_equal _ _ (record { cross = refl })

pub is_ratio : (q : ℚ) → ratio (numerator q) (denominator q) ≡ q
unfolding numerator denominator
is_ratio =
    rational_ind (λ q. ratio (numerator q) (denominator q) ≡ q) (λ q. ℚ_set _ _)
    (λ x. ratio_of (lowest_numerator x) (lowest_denominator x) (lowest-pos x) ∙ same_equal _ _ (lowest-same x))

-- the code by which a ghost name tracks a rational: its lowest terms
abbrev pub coded_ℚ : Coded ℚ
coded_ℚ =
    code_by (ℤ × ℕ) (coded× coded_ℤ coded_ℕ) (λ q. (numerator q, denominator q)) (λ t. ratio t.0 t.1) is_ratio
