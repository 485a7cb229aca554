-- The verdict on a point: bounds and choices by column, whole columns, rows in order, the cost; the first that is met.
use Rattle.std.specs.Prelude.{ℕ, ◌+◌, Bool, ◌&&◌, not, List, [], ◌∷◌, Option, None, Some, Result, Ok, Err, if◌then◌else◌}
use Rattle.cip_rational.specs.Rational.{ℚ, zeroℚ, is_whole}
use Rattle.cip_frac.specs.declared.operations.Wide.{Wide as Overflow}
use Rattle.cip_problem.specs.Program.{Sides, Row, Choice, Program}
use Rattle.cip_problem.specs.Box.{is_between}
use Rattle.cip_problem.specs.Choices.{choice_at}
use Rattle.cip_lin.specs.ChoiceParts.{is_allowed}
use Rattle.cip_frac.specs.Outcomes.{dot_from}
use Rattle.cip_lin.specs.RowSums.{activity_from}
use Rattle.cip_model.specs.declared.verdicts.Place.TheVariants.{Row as AtRow, Cost}
use Rattle.cip_model.specs.declared.verdicts.Verdict.{Verdict}
use Rattle.cip_model.specs.declared.verdicts.Verdict.TheVariants.{Feasible, BreaksBound, BreaksWhole, BreaksRow, Wide}

-- a value lies between the sides, and the choice allows it
abbrev pub is_kept : Sides → Choice → ℚ → Bool
is_kept sides choice value = is_between sides.low sides.high value && is_allowed choice value

-- the first column, counted from `at`, whose value is outside its sides, or isn't allowed by its choice
abbrev pub first_outside : ℕ → List Sides → List Choice → List ℚ → Option ℕ
first_outside at [] choices point = None
first_outside at (sides ∷ others) choices [] = None
first_outside at (sides ∷ others) choices (value ∷ values) =
    if is_kept sides (choice_at choices at) value then first_outside (at + 1) others choices values else Some at

-- the first whole column, counted from `at`, whose value is not whole
abbrev pub first_not_whole : ℕ → List Bool → List ℚ → Option ℕ
first_not_whole at [] point = None
first_not_whole at (whole ∷ others) [] = None
first_not_whole at (whole ∷ others) (value ∷ values) =
    if whole && not (is_whole value) then Some at else first_not_whole (at + 1) others values

-- what a row's activity says of the row, if it says anything
abbrev pub row_verdict : ℕ → Row → Result ℚ Overflow → Option Verdict
row_verdict at row (Err overflow) = Some (Wide (AtRow at))
row_verdict at row (Ok value) = if is_between row.low row.high value then None else Some (BreaksRow at value)

abbrev pub or_else : Option Verdict → Option Verdict → Option Verdict
or_else (Some verdict) next = Some verdict
or_else None next = next

-- the first verdict on a row, counted from `at`
abbrev pub first_broken : ℕ → List Row → List ℚ → Option Verdict
first_broken at [] point = None
first_broken at (row ∷ rows) point =
    or_else (row_verdict at row (activity_from zeroℚ row.terms point)) (first_broken (at + 1) rows point)

abbrev pub cost_verdict : Result ℚ Overflow → Verdict
cost_verdict (Ok cost) = Feasible cost
cost_verdict (Err overflow) = Wide Cost

abbrev pub from_rows : Option Verdict → Verdict → Verdict
from_rows (Some verdict) next = verdict
from_rows None next = next

abbrev pub from_wholes : Option ℕ → Verdict → Verdict
from_wholes (Some column) next = BreaksWhole column
from_wholes None next = next

abbrev pub from_bounds : Option ℕ → Verdict → Verdict
from_bounds (Some column) next = BreaksBound column
from_bounds None next = next

-- the verdict on a point with a value for each column
abbrev pub verdict_of : Program → List ℚ → Verdict
verdict_of program point =
    from_bounds (first_outside 0 program.bounds program.choices point)
    (from_wholes (first_not_whole 0 program.integral point)
    (from_rows (first_broken 0 program.rows point)
    (cost_verdict (dot_from program.constant program.costs point))))
