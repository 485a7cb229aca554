-- A sum or a product with 0 never overflows.
use Rattle.std.proofs.Common.{◌≡◌, ℕ, ◌/◌, false, true, ℤ, pos, ◌+ℤ◌, ◌*ℤ◌, sym, ap, ◌∙◌, arith, lit≤}
use Rattle.std.proofs.lemmas.Int.{ints}
use Rattle.std.proofs.lemmas.Nat.Gcd.{IsGcd-swap}
use Rattle.std.proofs.Math.Nat.{div-one}
use Rattle.cip_rational.specs.Gcd.{gcd}
use Rattle.cip_rational.proofs.Gcd.{gcd_unique}
use Rattle.cip_rational.specs.Rational.{ℚ, zeroℚ, numerator, denominator}
use Rattle.cip_rational.proofs.Rational.Ring.{*ℚ-zero, zero-*ℚ}
use Rattle.cip_rational.proofs.Rational.Rounding.{integer-zero}
use Rattle.cip_rational.proofs.Rational.Lowest.{numerator-integer, denominator-integer}
use Rattle.cip_rational.specs.Range.{fits_range, raised, sum_overflows, product_overflows}
use Rattle.cip_rational.proofs.Range.InRange.{fits_out, fits-zero, least_common, sum_in, fits_product}
use Rattle.cip_rational.proofs.Integers.{gcd_one, times_one}

numerator_zero : numerator zeroℚ ≡ pos 0
numerator_zero = ap numerator (sym integer-zero) ∙ numerator-integer (pos 0)

denominator_zero : denominator zeroℚ ≡ 1
denominator_zero = ap denominator (sym integer-zero) ∙ denominator-integer (pos 0)

gcd_right : (d : ℕ) → gcd d 1 ≡ 1
gcd_right d = gcd_unique d 1 1 (gcd_one d)

pub gcd_left : (d : ℕ) → gcd 1 d ≡ 1
gcd_left d = gcd_unique 1 d 1 (IsGcd-swap d 1 1 (gcd_one d))

zero_times : (z : ℤ) → pos 0 *ℤ z ≡ pos 0
zero_times z = omega (arith, ints)

plus_zero : (z : ℤ) → z +ℤ pos 0 ≡ z
plus_zero z = omega (arith, ints)

zero_plus : (z : ℤ) → pos 0 +ℤ z ≡ z
zero_plus z = omega (arith, ints)

-- at the least common denominator with 0 a number is as it is, and 0 is 0
number_raised : (a : ℚ) → raised 1 a zeroℚ ≡ numerator a
number_raised a = rw (denominator_zero) (times_one (numerator a))

zero_raised : (a : ℚ) → raised 1 zeroℚ a ≡ pos 0
zero_raised a = rw (numerator_zero) (zero_times (pos (denominator a / 1)))

right_gcd : (a : ℚ) → gcd (denominator a) (denominator zeroℚ) ≡ 1
right_gcd a = ap (gcd (denominator a)) denominator_zero ∙ gcd_right (denominator a)

left_gcd : (a : ℚ) → gcd (denominator zeroℚ) (denominator a) ≡ 1
left_gcd a = ap (λ d. gcd d (denominator a)) denominator_zero ∙ gcd_left (denominator a)

right_common : (a : ℚ) → least_common a zeroℚ ≡ denominator a
right_common a = rw (right_gcd a, denominator_zero, div-one) (omega arith)

left_common : (a : ℚ) → least_common zeroℚ a ≡ denominator a
left_common a = rw (left_gcd a, denominator_zero) (omega arith)

pub sum_overflows-zero : (a : ℚ) → fits_range a ≡ true → sum_overflows a zeroℚ ≡ false
sum_overflows-zero a h =
    let f = fits_out a h in
    sum_in a zeroℚ (record {
      left = rw (right_gcd a, number_raised a) f.top;
      right = rw (right_gcd a, zero_raised a) (lit≤ tt);
      total = rw (right_gcd a, number_raised a, zero_raised a, plus_zero (numerator a)) f.top;
      bottom = rw (right_common a) f.bottom;
    })

pub zero-sum_overflows : (a : ℚ) → fits_range a ≡ true → sum_overflows zeroℚ a ≡ false
zero-sum_overflows a h =
    let f = fits_out a h in
    sum_in zeroℚ a (record {
      left = rw (left_gcd a, zero_raised a) (lit≤ tt);
      right = rw (left_gcd a, number_raised a) f.top;
      total = rw (left_gcd a, zero_raised a, number_raised a, zero_plus (numerator a)) f.top;
      bottom = rw (left_common a) f.bottom;
    })

pub product_overflows-zero : (a : ℚ) → product_overflows a zeroℚ ≡ false
product_overflows-zero a = fits_product a zeroℚ (ap fits_range (*ℚ-zero a) ∙ fits-zero)

pub zero-product_overflows : (a : ℚ) → product_overflows zeroℚ a ≡ false
zero-product_overflows a = fits_product zeroℚ a (ap fits_range (zero-*ℚ a) ∙ fits-zero)
