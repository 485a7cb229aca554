-- Which rationals a pair of `i128` holds, and which operations leave that range.
--     largest, magnitude, fits_range       the range: in lowest terms both numbers are at most `largest` in magnitude
--     sum_overflows, difference_overflows, product_overflows, quotient_overflows      whether an operation leaves it
use Rattle.std.specs.Prelude.{ℕ, ◌*◌, ◌/◌, Bool, not, ◌&&◌, ◌||◌, nat_lt, nat_le, ℤ, pos, ◌+ℤ◌, ◌*ℤ◌, unsigned_abs}
use Rattle.cip_rational.specs.Gcd.{gcd}
use Rattle.cip_rational.specs.Rational.{ℚ, ◌*ℚ◌, negate, inverse, numerator, denominator}

-- 2 ^ 127 - 1, the greatest `i128`
abbrev pub largest : ℕ
largest = 170141183460469231731687303715884105727

-- how far z is from 0
abbrev pub magnitude : ℤ → ℕ
magnitude z = unsigned_abs z

-- whether numerator and denominator in lowest terms are in the range
unfoldable pub fits_range : ℚ → Bool
fits_range q = nat_le (magnitude (numerator q)) largest && nat_le (denominator q) largest

-- whether z is out of the range
abbrev pub too_large : ℤ → Bool
too_large z = nat_lt largest (magnitude z)

-- the numerator of a at the least common denominator with b, where g is the greatest common divisor of the denominators
abbrev pub raised : ℕ → ℚ → ℚ → ℤ
raised g a b = numerator a *ℤ pos (denominator b / g)

-- the sum is formed at the least common denominator and not reduced before: it overflows where one of the two
-- raised numerators, their sum or that denominator is too large
unfoldable pub sum_overflows : ℚ → ℚ → Bool
sum_overflows a b =
    let g : ℕ = gcd (denominator a) (denominator b) in
    let left : ℤ = raised g a b in
    let right : ℤ = raised g b a in
    too_large left || too_large right || too_large (left +ℤ right)
    || nat_lt largest (denominator a / g * denominator b)

-- a difference is the sum with the negative
unfoldable pub difference_overflows : ℚ → ℚ → Bool
difference_overflows a b = sum_overflows a (negate b)

-- a product overflows where its lowest terms are out of the range
unfoldable pub product_overflows : ℚ → ℚ → Bool
product_overflows a b = not (fits_range (a *ℚ b))

-- a quotient is the product with the inverse
unfoldable pub quotient_overflows : ℚ → ℚ → Bool
quotient_overflows a b = product_overflows a (inverse b)
