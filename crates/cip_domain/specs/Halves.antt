-- The halves of the values between two sides: those up to a whole number, and those from the next one on.
use Rattle.std.specs.Prelude.{◌≤◌, ◌^◌, ℤ, pos, ◌+ℤ◌, unsigned_abs, Some}
use Rattle.cip_rational.specs.Rational.{integer}
use Rattle.cip_problem.specs.Program.{Sides}
use Rattle.cip_problem.specs.Wholes.{HasWhole}

-- the sides of the values up to a whole number, and from the next one on
abbrev pub low_sides : Sides → ℤ → Sides
low_sides sides at = record { low = sides.low; high = Some (integer at) }

abbrev pub high_sides : Sides → ℤ → Sides
high_sides sides at = record { low = Some (integer (at +ℤ pos 1)); high = sides.high }

-- sides can be split at a whole number that is not too far from 0: each half has a whole value
pub record CanHalve (sides : Sides) (at : ℤ) : Type 0 where
  pub near : unsigned_abs at ≤ 2 ^ 101
  pub low : HasWhole (low_sides sides at)
  pub high : HasWhole (high_sides sides at)
