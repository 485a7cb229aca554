-- Sides that a column may take.
use Rattle.std.specs.Prelude.{◌≡◌, ℕ, ◌<◌, true, false, length, Some, slice_get}
use Rattle.cip_problem.specs.Program.{Sides, Row, Program}
use Rattle.cip_problem.specs.Choices.{choice_at, is_open}
use Rattle.cip_presolve.specs.MetSides.{is_past}
use Rattle.cip_presolve.specs.NarrowedPrograms.{IsExactStep, IsInfeasible, with_sides}
use Rattle.cip_presolve.specs.RowReading.{Encloses}

-- the activity of the row of a number lies between these sides at each point of the bounds
abbrev pub IsEnclosed : Program → ℕ → Sides → Type 0
IsEnclosed program number extent =
    (row : Row) → slice_get program.rows number ≡ Some row → Encloses program.bounds row.terms extent

-- a column, and sides that it may take: where they leave no value, no point is feasible
pub record IsImplied (program : Program) (column : ℕ) (sides : Sides) : Type 0 where
  pub inside : column < length program.bounds
  pub plain : is_open (choice_at program.choices column) ≡ false
  pub step : IsExactStep program (with_sides program column sides)
  pub none : is_past sides.low sides.high ≡ true → IsInfeasible program
