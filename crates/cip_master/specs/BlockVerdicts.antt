-- The verdict on a point of a block: a value for each column, bounds and choices by column, whole columns, rows in
-- order; the first that is met. Columns and rows go by their places in the block.
use Rattle.std.specs.Prelude.{◌≡◌, ℕ, ◌+◌, ◌<◌, ◌==◌, true, List, [], ◌∷◌, length, Option, None, Some, Result, Ok, Err, if◌then◌else◌, slice_get}
use Rattle.cip_rational.specs.Rational.{ℚ, zeroℚ, IsWhole}
use Rattle.cip_frac.specs.declared.operations.Wide.{Wide as Overflow}
use Rattle.cip_problem.specs.Program.{Sides, Row, Program}
use Rattle.cip_problem.specs.Activity.{value_at}
use Rattle.cip_problem.specs.Box.{is_between, sides_at}
use Rattle.cip_problem.specs.Choices.{choice_at}
use Rattle.cip_lin.specs.RowSums.{activity_from}
use Rattle.cip_model.specs.Verdicts.{first_outside, first_not_whole}
use Rattle.cip_model.specs.Meaning.{IsKept, IsBroken, RowOverflows}
use Rattle.cip_pricing.specs.Decomposition.{Conditions, conditions_of, picked, IsPointOf}
use Rattle.cip_lagrange.specs.declared.parts.Decomposed.{Decomposed}
use Rattle.cip_lagrange.specs.Decompositions.{owners_in}
use Rattle.cip_master.specs.declared.verdicts.PointVerdict.{PointVerdict}
use Rattle.cip_master.specs.declared.verdicts.PointVerdict.TheVariants.{Good, WrongCount, BreaksBound, BreaksWhole, BreaksRow, Wide}

-- ---- the verdict

-- what a row's activity says of the row, if it says anything
abbrev pub row_fault : ℕ → Row → Result ℚ Overflow → Option PointVerdict
row_fault at row (Err overflow) = Some (Wide at)
row_fault at row (Ok value) = if is_between row.low row.high value then None else Some (BreaksRow at value)

abbrev pub or_else : Option PointVerdict → Option PointVerdict → Option PointVerdict
or_else (Some verdict) next = Some verdict
or_else None next = next

-- the first verdict on a row, counted from `at`
abbrev pub first_faulty : ℕ → List Row → List ℚ → Option PointVerdict
first_faulty at [] point = None
first_faulty at (row ∷ rows) point =
    or_else (row_fault at row (activity_from zeroℚ row.terms point)) (first_faulty (at + 1) rows point)

abbrev pub from_rows : Option PointVerdict → PointVerdict
from_rows (Some verdict) = verdict
from_rows None = Good

abbrev pub from_wholes : Option ℕ → PointVerdict → PointVerdict
from_wholes (Some column) next = BreaksWhole column
from_wholes None next = next

abbrev pub from_bounds : Option ℕ → PointVerdict → PointVerdict
from_bounds (Some column) next = BreaksBound column
from_bounds None next = next

-- the verdict on a point with a value for each column
abbrev pub verdict_of : Conditions → List Sides → List ℚ → PointVerdict
verdict_of conditions box point =
    from_bounds (first_outside 0 box conditions.choices point)
    (from_wholes (first_not_whole 0 conditions.integral point) (from_rows (first_faulty 0 conditions.rows point)))

-- that on any list of values
abbrev pub verdict_on : Conditions → List Sides → List ℚ → PointVerdict
verdict_on conditions box point =
    if length box == length point then verdict_of conditions box point else WrongCount

-- so for a block of a program, in the program's own sides
abbrev pub block_verdict : Program → Decomposed → ℕ → List ℚ → PointVerdict
block_verdict program kept block point =
    verdict_on (conditions_of program (owners_in kept) block)
    (picked (Some block) kept.column_owners.items program.bounds) point

-- ---- what it says

-- the value of a column is not between its sides, or it isn't allowed by the column's choice
pub record IsOutsideOf (conditions : Conditions) (box : List Sides) (point : List ℚ) (column : ℕ) : Type 0 where
  pub is_column : column < length box
  pub outside : ¬ IsKept (sides_at box column) (choice_at conditions.choices column) (value_at point column)

-- a column is to be whole, and its value is fractional
pub record IsFractionalIn (conditions : Conditions) (point : List ℚ) (column : ℕ) : Type 0 where
  pub integral : slice_get conditions.integral column ≡ Some true
  pub not_whole : ¬ IsWhole (value_at point column)

-- what a verdict says
abbrev pub VerdictSays : Conditions → List Sides → List ℚ → PointVerdict → Type 0
VerdictSays conditions box point Good = IsPointOf conditions box point
VerdictSays conditions box point WrongCount = ¬ (length box ≡ length point)
VerdictSays conditions box point (BreaksBound column) = IsOutsideOf conditions box point column
VerdictSays conditions box point (BreaksWhole column) = IsFractionalIn conditions point column
VerdictSays conditions box point (BreaksRow row value) = IsBroken conditions.rows point row value
VerdictSays conditions box point (Wide row) = RowOverflows conditions.rows point row

-- so of a block of a program, in the program's own sides
abbrev pub BlockVerdictSays : Program → Decomposed → ℕ → List ℚ → PointVerdict → Type 0
BlockVerdictSays program kept block point verdict =
    VerdictSays (conditions_of program (owners_in kept) block)
    (picked (Some block) kept.column_owners.items program.bounds) point verdict
