-- Splits at values of the last point.
use Rattle.std.specs.Prelude.{◌≡◌, Bool, true, false, List, Option, None, Some, slice_index_or}
use Rattle.cip_rational.specs.Rational.{ℚ, IsWhole, floor}
use Rattle.cip_problem.specs.Activity.{value_at}
use Rattle.cip_plugin.specs.declared.proposals.Split.{Split}

-- a split of a whole column whose value isn't whole, at its floor
pub record IsAtValue (integral : List Bool) (point : List ℚ) (split : Split) : Type 0 where
  pub whole : slice_index_or integral split.col false ≡ true
  pub fractional : ¬ IsWhole (value_at point split.col)
  pub place : split.at ≡ floor (value_at point split.col)

-- a split, where there is one, is at a value of the point; where no point is there, no split is
abbrev pub IsByPoint : List Bool → Option (List ℚ) → Option Split → Type 0
IsByPoint integral point None = Unit {0}
IsByPoint integral None (Some split) = ⊥
IsByPoint integral (Some point) (Some split) = IsAtValue integral point split
