-- Facts on integers and common divisors that the crates above share.
use Rattle.std.proofs.Common.{◌≡◌, ◌≢◌, ℕ, ◌<◌, ℤ, pos, ◌*ℤ◌, sym, ◌∙◌, arith}
use Rattle.std.specs.Int.{IsGcd}
use Rattle.std.proofs.lemmas.Int.{ints}
use Rattle.std.proofs.lemmas.Nat.Gcd.{dvd_refl}
use Rattle.std.proofs.Math.Nat.{one-dvd}
use Rattle.cip_rational.specs.Rational.{integer, zeroℚ}
use Rattle.cip_rational.proofs.Rational.Lowest.{integer_inj}
use Rattle.cip_rational.proofs.Rational.Rounding.{integer-zero}

-- 1 has no divisor but itself
pub gcd_one : (m : ℕ) → IsGcd m 1 1
gcd_one m = (one-dvd m, dvd_refl 1, λ e p q. q)

pub times_one : (z : ℤ) → z *ℤ pos 1 ≡ z
times_one z = omega (arith, ints)

-- a natural number above 0 is not 0 as a rational
pub integer_not_zero : (n : ℕ) → 0 < n → integer (pos n) ≢ zeroℚ
integer_not_zero n some e =
    let same : pos n ≡ pos 0 = integer_inj (pos n) (pos 0) (e ∙ sym integer-zero) in
    let none : n ≡ 0 = cc in
    omega arith
