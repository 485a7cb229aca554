-- Whole numbers between sides.
use borrow.Author.Differences.{true_is_le, le_out}
use lib.Dec.{T}
use Rattle.std.proofs.Common.{◌≡◌, pos, ◌≤ℤ◌, true, false, not, ◌&&◌, ◌^◌, Option, None, Some, refl, sym, ap, ◌∙◌, subst, arith}
use Rattle.std.proofs.lemmas.Int.{ints}
use Rattle.cip_rational.specs.Rational.{ℚ, integer, floor, ceil, absolute, le_test, IsWhole, is_whole}
use Rattle.cip_rational.proofs.Rational.Rounding.{floor_le, le_ceil}
use Rattle.cip_rational.proofs.Rational.Whole.{IsWhole_of_test}
use Rattle.std.proofs.lemmas.Bool.{false_from_ne_true}
use Rattle.cip_problem.specs.Wholes.{HasWhole}
use Rattle.cip_node_rules.specs.OpenColumns.{whole_between, is_fractional}
use Rattle.cip_problem.proofs.Wholes.Counts.{above_ceil, below_floor, between_rounded}

pub whole_below : (high : ℚ) → HasWhole (record { low = None; high = Some high })
whole_below high = record { number = floor high; between = record { above = tt; below = floor_le high } }

pub whole_above : (low : ℚ) → HasWhole (record { low = Some low; high = None })
whole_above low = record { number = ceil low; between = record { above = le_ceil low; below = tt } }

pub whole_anywhere : HasWhole (record { low = None; high = None })
whole_anywhere = record { number = pos 0; between = record { above = tt; below = tt } }

pub whole_where_open : (high : Option ℚ) → HasWhole (record { low = None; high = high })
whole_where_open None = whole_anywhere
whole_where_open (Some high) = whole_below high

pub whole_of_order : (low high : ℚ) → ceil low ≤ℤ floor high → HasWhole (record { low = Some low; high = Some high })
whole_of_order low high h = record { number = ceil low; between = between_rounded low high (ceil low) (omega (arith, ints)) h }

pub order_of_whole : (low high : ℚ) → HasWhole (record { low = Some low; high = Some high }) → ceil low ≤ℤ floor high
order_of_whole low high h =
    let a = above_ceil low (Some high) h.number h.between in
    let b = below_floor (Some low) high h.number h.between in
    omega (arith, ints, a, b)

pub whole_of_test : (low high : Option ℚ) → whole_between low high ≡ true → HasWhole (record { low = low; high = high })
whole_of_test None high e = whole_where_open high
whole_of_test (Some low) None e = whole_above low
whole_of_test (Some low) (Some high) e = whole_of_order low high (record { le = subst T (sym e) tt })

pub test_of_whole : (low high : Option ℚ) → HasWhole (record { low = low; high = high }) → whole_between low high ≡ true
test_of_whole None high h = refl
test_of_whole (Some low) None h = refl
test_of_whole (Some low) (Some high) h = sym (true_is_le (ceil low) (floor high) (le_out (ceil low) (floor high) (order_of_whole low high h)))

-- a value that isn't whole doesn't pass the test
pub not_whole_test : (q : ℚ) → ¬ IsWhole q → is_whole q ≡ false
not_whole_test q n = false_from_ne_true (is_whole q) (λ e. n (IsWhole_of_test q e))

pub fractional_is : (value a b : ℚ) → ¬ IsWhole value → a ≡ absolute value → b ≡ integer (pos (2 ^ 100)) → le_test a b ≡ is_fractional value
fractional_is value a b n e f =
    ap (λ t. le_test t b) e ∙ ap (le_test (absolute value)) f
    ∙ ap (λ w. not w && le_test (absolute value) (integer (pos (2 ^ 100)))) (sym (not_whole_test value n))
