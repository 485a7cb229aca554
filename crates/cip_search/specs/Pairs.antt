-- Reduction pairs: a program that may be solved in place of another, and how its points, its whole columns, its
-- semi-continuous columns and the values of its whole columns come back (presolve and postsolve).
use Rattle.std.specs.Prelude.{◌≡◌, ◌⊎◌, ℕ, ◌<◌, Bool, true, List, [], ◌∷◌, length, Some, slice_get}
use Rattle.cip_rational.specs.Rational.{ℚ, ◌≤ℚ◌, zeroℚ, IsWhole}
use Rattle.cip_rational.specs.Range.{fits_range}
use Rattle.cip_problem.specs.Program.{Sides, Choice, Plain, Open, Off, On, Program}
use Rattle.cip_problem.specs.Activity.{value_at}
use Rattle.cip_problem.specs.Box.{Between, sides_at, sides_inside}
use Rattle.cip_problem.specs.Choices.{choice_at, is_open}
use Rattle.cip_problem.specs.Points.{IsFeasible, cost_of}
use Rattle.cip_problem.specs.Wholes.{assignments, AtMost}
use Rattle.cip_problem.specs.Reduced.{IsRelaxed}
use Rattle.cip_search.specs.Forms.{Form, form_value}

-- a point has a value for each column
abbrev pub IsLong : Program → List ℚ → Type 0
IsLong program point = length point ≡ length program.bounds

-- ---- columns

-- a column of the reduced program is one of the program, as whole as that and with its choice, with bounds inside, and
-- its value comes back
pub record IsKept (program reduced : Program) (post : List ℚ → List ℚ) (kept : ℕ → ℕ) (column : ℕ) : Type 0 where
  pub within : kept column < length program.bounds
  pub whole : slice_get program.integral (kept column) ≡ slice_get reduced.integral column
  pub choice : choice_at program.choices (kept column) ≡ choice_at reduced.choices column
  pub inside : sides_inside (sides_at reduced.bounds column) (sides_at program.bounds (kept column)) ≡ true
  pub value : (point : List ℚ) → IsLong reduced point → value_at (post point) (kept column) ≡ value_at point column

-- a form's source is this kind of column, where the form has one
abbrev pub HasSource : (List Bool) → Form → Type 0
HasSource integral form = (form.factor ≡ zeroℚ) ⊎ (slice_get integral form.source ≡ Some true)

-- a column comes back as a whole affine form of one whole column, or as a whole number
pub record HasForm (reduced : Program) (post : List ℚ → List ℚ) (column : ℕ) : Type 0 where
  pub form : Form
  pub constant : IsWhole form.constant
  pub factor : IsWhole form.factor
  pub source : HasSource reduced.integral form
  pub value : (point : List ℚ) → IsLong reduced point → value_at (post point) column ≡ form_value form point

-- a value of a whole column is whole, in range, and within its bounds
pub record IsWholeIn (sides : Sides) (value : ℚ) : Type 0 where
  pub whole : IsWhole value
  pub in_range : fits_range value ≡ true
  pub between : Between sides.low sides.high value

-- the whole columns of a point have such values, whatever those of its other columns are
pub record IsAssignment (program : Program) (point : List ℚ) : Type 0 where
  pub long : IsLong program point
  pub values : (column : ℕ) → slice_get program.integral column ≡ Some true
      → IsWholeIn (sides_at program.bounds column) (value_at point column)

-- ---- semi-continuous columns

-- their own sides, by rising column
abbrev pub own_sides : List Choice → List Sides
own_sides [] = []
own_sides (Plain ∷ choices) = own_sides choices
own_sides (Open own ∷ choices) = own ∷ own_sides choices
own_sides (Off ∷ choices) = own_sides choices
own_sides (On ∷ choices) = own_sides choices

-- the value of the first column of a point, and the values of the others
abbrev pub first_value : List ℚ → ℚ
first_value [] = zeroℚ
first_value (value ∷ values) = value

abbrev pub other_values : List ℚ → List ℚ
other_values [] = []
other_values (value ∷ values) = values

-- the values of semi-continuous columns, by rising column
abbrev pub semi_values : List Choice → List ℚ → List ℚ
semi_values [] point = []
semi_values (Plain ∷ choices) point = semi_values choices (other_values point)
semi_values (Open own ∷ choices) point = first_value point ∷ semi_values choices (other_values point)
semi_values (Off ∷ choices) point = semi_values choices (other_values point)
semi_values (On ∷ choices) point = semi_values choices (other_values point)

-- the reduced program has the program's semi-continuous columns, with their own sides, and their values come back
pub record KeepsSemi (program reduced : Program) (post : List ℚ → List ℚ) : Type 0 where
  pub own : own_sides program.choices ≡ own_sides reduced.choices
  pub values : (point : List ℚ)
      → IsLong reduced point → semi_values program.choices (post point) ≡ semi_values reduced.choices point

-- ---- points that aren't lost

-- the sides of a column leave it one value
pub record IsHeldFast (reduced : Program) (column : ℕ) : Type 0 where
  pub value : ℚ
  pub inside : sides_inside (sides_at reduced.bounds column) (record { low = Some value; high = Some value }) ≡ true

-- for a point the reduced program has a feasible one that costs no more, with the same value in each column that the
-- reduced program doesn't hold fast, and in each semi-continuous one
pub record HasNear (program reduced : Program) (kept : ℕ → ℕ) (point : List ℚ) : Type 0 where
  pub other : List ℚ
  pub feasible : IsFeasible reduced other
  pub no_dearer : cost_of reduced other ≤ℚ cost_of program point
  pub near : (column : ℕ) → column < length reduced.bounds
      → (value_at other column ≡ value_at point (kept column)) ⊎ IsHeldFast reduced column
  pub semi : (column : ℕ) → column < length reduced.bounds → is_open (choice_at reduced.choices column) ≡ true
      → value_at other column ≡ value_at point (kept column)

-- ---- pairs

-- a reduction pair: `post` is how points of the reduced program come back, `kept` the old number of each of its columns
pub record IsPair (program reduced : Program) (post : List ℚ → List ℚ) (kept : ℕ → ℕ) : Type 0 where
  -- a point with a value for each column comes back as one
  pub long : (point : List ℚ) → IsLong reduced point → IsLong program (post point)
  -- a point that keeps bounds and rows comes back as one that does, at equal cost
  pub relaxed : (point : List ℚ) → IsRelaxed reduced point → IsRelaxed program (post point)
  pub cost : (point : List ℚ) → IsRelaxed reduced point → cost_of program (post point) ≡ cost_of reduced point
  -- for each feasible point of the program the reduced one has one that costs no more, with the same values where
  -- columns aren't held fast
  pub none_lost : (point : List ℚ) → IsFeasible program point → HasNear program reduced kept point
  -- columns of the reduced program are the program's, with bounds inside and the same values
  pub columns : (column : ℕ) → column < length reduced.bounds → IsKept program reduced post kept column
  -- each whole column of the program has a whole affine form of the reduced program's whole columns
  pub forms : (column : ℕ) → slice_get program.integral column ≡ Some true → HasForm reduced post column
  -- whole values in range and within the reduced program's bounds come back in range and within bounds
  pub assigned : (point : List ℚ) → IsAssignment reduced point → IsAssignment program (post point)
  -- the reduced program has no more whole assignments
  pub fewer : AtMost (assignments reduced.integral reduced.bounds) (assignments program.integral program.bounds)
  -- semi-continuous columns stay as they are
  pub semi : KeepsSemi program reduced post

-- a feasible point of the reduced program comes back as this point, at equal cost
pub record IsBack (program reduced : Program) (post : List ℚ → List ℚ) (point : List ℚ) : Type 0 where
  pub other : List ℚ
  pub feasible : IsFeasible reduced other
  pub same : post other ≡ point
  pub cost : cost_of reduced other ≡ cost_of program point

-- an exact pair: beyond a pair, each feasible point of the program is what one of the reduced program, of equal cost,
-- comes back as
pub record IsExactPair (program reduced : Program) (post : List ℚ → List ℚ) (kept : ℕ → ℕ) : Type 0 where
  pub pair : IsPair program reduced post kept
  pub back : (point : List ℚ) → IsFeasible program point → IsBack program reduced post point
