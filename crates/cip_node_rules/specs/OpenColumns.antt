-- The whole columns of a box that are still open, and those that have no whole value.
use Rattle.std.specs.Prelude.{◌≡◌, ℕ, ◌<◌, ◌^◌, Bool, true, false, not, ◌&&◌, List, length, pos, int_le, Option, None, Some, slice_index_or}
use Rattle.cip_rational.specs.Rational.{ℚ, integer, absolute, le_test, is_whole, floor, ceil}
use Rattle.cip_problem.specs.Program.{Sides}
use Rattle.cip_problem.specs.Activity.{value_at}
use Rattle.cip_problem.specs.Box.{sides_at, two_wholes_between}
use Rattle.cip_problem.specs.Wholes.{HasWhole}

-- a column is whole
abbrev pub is_whole_at : List Bool → ℕ → Bool
is_whole_at integral column = slice_index_or integral column false

-- a whole column has two whole values between its sides
abbrev pub is_open_at : List Bool → List Sides → ℕ → Bool
is_open_at integral box column =
    is_whole_at integral column && two_wholes_between (sides_at box column).low (sides_at box column).high

-- a value isn't whole, and not farther than 2^100 from 0
abbrev pub is_fractional : ℚ → Bool
is_fractional value = not (is_whole value) && le_test (absolute value) (integer (pos (2 ^ 100)))

-- a whole column has two whole values, and a point has such a value there
abbrev pub is_fractional_at : List Bool → List Sides → List ℚ → ℕ → Bool
is_fractional_at integral box point column =
    is_open_at integral box column && is_fractional (value_at point column)

-- a test passes at a column, and at none before it
pub record IsFirstColumn (test : ℕ → Bool) (columns column : ℕ) : Type 0 where
  pub within : column < columns
  pub passes : test column ≡ true
  pub none_before : (before : ℕ) → before < column → test before ≡ false

-- a test passes at no column
abbrev pub PassesNowhere : (ℕ → Bool) → ℕ → Type 0
PassesNowhere test columns = (column : ℕ) → column < columns → test column ≡ false

-- a whole number lies between two sides, by their rounded values
abbrev pub whole_between : Option ℚ → Option ℚ → Bool
whole_between None high = true
whole_between (Some low) None = true
whole_between (Some low) (Some high) = int_le (ceil low) (floor high)

-- a column is whole, and no whole number lies between its sides
pub record LacksWhole (integral : List Bool) (box : List Sides) (column : ℕ) : Type 0 where
  pub within : column < length integral
  pub whole : is_whole_at integral column ≡ true
  pub lacks : ¬ HasWhole (sides_at box column)
