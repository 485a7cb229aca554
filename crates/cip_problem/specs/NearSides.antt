-- Sides that are not too far from 0: a text names no others, as a bound of a size of 10^20 or more is none.
use Rattle.std.specs.Prelude.{◌^◌, Option, IfSome, pos}
use Rattle.cip_rational.specs.Rational.{ℚ, integer, absolute, ◌<ℚ◌}
use Rattle.cip_problem.specs.Program.{Sides}

-- a side, where it is there, has a size below 10^20
abbrev pub IsNear : Option ℚ → Type 0
IsNear side = IfSome side (λ value. absolute value <ℚ integer (pos (10 ^ 20)))

-- so have both sides of a column
pub record HasNearSides (sides : Sides) : Type 0 where
  pub low : IsNear sides.low
  pub high : IsNear sides.high
