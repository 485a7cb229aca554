-- Where a box with choices is split: the first open column whose value in the last linear program isn't whole, at its
-- floor; else the first open column, at the middle of its whole values. An open side lets it be split at 0. A number
-- that leaves no whole value on one side is moved to the nearest that does. Where no whole column is open, the choice
-- is made of the first column whose choice is open and doesn't allow its value in the last linear program; else of
-- the first column whose choice is open.
use Rattle.std.specs.Prelude.{◌≡◌, ◌⊎◌, ℕ, ◌+◌, ◌^◌, ◌≤◌, ℤ, pos, ◌+ℤ◌, ◌-ℤ◌, int_lt, unsigned_abs, Bool, List, length, Option, None, Some, IfSome, if◌then◌else◌}
use Rattle.cip_rational.specs.Rational.{ℚ, integer, floor, ceil}
use Rattle.cip_problem.specs.Program.{Sides, Choice}
use Rattle.cip_problem.specs.Activity.{value_at}
use Rattle.cip_problem.specs.Box.{sides_at}
use Rattle.cip_problem.specs.Wholes.{HasWhole}
use Rattle.cip_node_rules.specs.OpenColumns.{is_open_at, is_fractional_at, IsFirstColumn, PassesNowhere}
use Rattle.cip_node_rules.specs.OpenChoices.{is_choice_open, is_unallowed}

-- ---- where a column is split

-- at least the least whole number above a low side
abbrev pub raised_to : Option ℚ → ℤ → ℤ
raised_to None at = at
raised_to (Some low) at = if int_lt at (ceil low) then ceil low else at

-- below the greatest whole number below a high side
abbrev pub lowered_to : Option ℚ → ℤ → ℤ
lowered_to None at = at
lowered_to (Some high) at = if int_lt at (floor high) then at else floor high -ℤ pos 1

-- a number moved to where both sides keep a whole value
abbrev pub moved : Sides → ℤ → ℤ
moved sides at = lowered_to sides.high (raised_to sides.low at)

-- half a sum of whole numbers, rounded down
abbrev pub IsHalf : ℤ → ℤ → Type 0
IsHalf sum half = (half +ℤ half ≡ sum) ⊎ ((half +ℤ half) +ℤ pos 1 ≡ sum)

-- the middle of the whole values between two sides; where one is open, 0, moved
abbrev pub IsMiddle : Option ℚ → Option ℚ → ℤ → Type 0
IsMiddle (Some low) (Some high) at = IsHalf (ceil low +ℤ floor high) at
IsMiddle (Some low) None at = at ≡ raised_to (Some low) (pos 0)
IsMiddle None high at = at ≡ lowered_to high (pos 0)

-- ---- which column

-- the first column whose value isn't whole, at its floor
pub record IsAtFraction (integral : List Bool) (box : List Sides) (point : List ℚ) (column : ℕ) (at : ℤ) : Type 0 where
  pub first : IsFirstColumn (is_fractional_at integral box point) (length integral) column
  pub place : at ≡ moved (sides_at box column) (floor (value_at point column))

-- the first open column, at the middle
pub record IsAtMiddle (integral : List Bool) (box : List Sides) (column : ℕ) (at : ℤ) : Type 0 where
  pub first : IsFirstColumn (is_open_at integral box) (length integral) column
  pub place : IsMiddle (sides_at box column).low (sides_at box column).high at

-- the split of a whole column: by a point of its linear program, if there is one, else at the middle
abbrev pub IsSplitRule : List Bool → List Sides → Option (List ℚ) → ℕ → ℤ → Type 0
IsSplitRule integral box None column at = IsAtMiddle integral box column at
IsSplitRule integral box (Some point) column at =
    IsAtFraction integral box point column at
    ⊎ (PassesNowhere (is_fractional_at integral box point) (length integral) × IsAtMiddle integral box column at)

-- of the first so many columns the one whose choice is made: by a point of its linear program, if there is one, else
-- the first whose choice is open
abbrev pub IsChoiceRule : List Choice → Option (List ℚ) → (columns column : ℕ) → Type 0
IsChoiceRule choices None columns column = IsFirstColumn (is_choice_open choices) columns column
IsChoiceRule choices (Some point) columns column =
    IsFirstColumn (is_unallowed choices point) columns column
    ⊎ (PassesNowhere (is_unallowed choices point) columns × IsFirstColumn (is_choice_open choices) columns column)

-- a choice is made, as no whole column has two whole values; it has no place
pub record IsAtChoice
    (integral : List Bool) (box : List Sides) (choices : List Choice) (point : Option (List ℚ)) (column : ℕ) (at : ℤ)
    : Type 0 where
  pub none_open : PassesNowhere (is_open_at integral box) (length integral)
  pub first : IsChoiceRule choices point (length integral) column
  pub place : at ≡ pos 0

-- the split of a box with choices: whole columns come first
abbrev pub IsNodeRule : List Bool → List Sides → List Choice → Option (List ℚ) → ℕ → ℤ → Type 0
IsNodeRule integral box choices point column at =
    IsSplitRule integral box point column at ⊎ IsAtChoice integral box choices point column at

-- ---- what holds of the place

-- a whole value on both sides, each no farther from 0 than this
pub record LeavesBoth (sides : Sides) (farthest : ℕ) (at : ℤ) : Type 0 where
  pub near : unsigned_abs at ≤ farthest
  pub next_near : unsigned_abs (at +ℤ pos 1) ≤ farthest
  pub low : HasWhole (record { low = sides.low; high = Some (integer at) })
  pub high : HasWhole (record { low = Some (integer (at +ℤ pos 1)); high = sides.high })

-- the whole numbers next to the sides, inward, are no farther from 0 than this
pub record AreNear (farthest : ℕ) (sides : Sides) : Type 0 where
  pub low : IfSome sides.low (λ side. unsigned_abs (ceil side) ≤ farthest)
  pub high : IfSome sides.high (λ side. unsigned_abs (floor side) ≤ farthest)

-- a split by the rules leaves a whole value on both sides, and goes by 1 at most past the sides, and 2^100, from 0
abbrev pub SplitsLeaveBoth : Type 0
SplitsLeaveBoth =
    (integral : List Bool) (box : List Sides) (point : Option (List ℚ)) (column : ℕ) (at : ℤ) (farthest : ℕ)
    → 2 ^ 100 ≤ farthest → AreNear farthest (sides_at box column) → IsSplitRule integral box point column at
    → LeavesBoth (sides_at box column) (farthest + 1) at
