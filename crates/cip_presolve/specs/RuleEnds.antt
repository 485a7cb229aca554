-- What rules come to.
use Rattle.std.specs.Prelude.{◌≡◌, ℕ, ◌<◌, true, false, length, ⊤}
use Rattle.cip_problem.specs.Program.{Sides, Program}
use Rattle.cip_problem.specs.Choices.{choice_at, is_open}
use Rattle.cip_presolve.specs.MetSides.{is_past}
use Rattle.cip_presolve.specs.NarrowedPrograms.{IsExactStep, IsInfeasible, with_row, with_sides}
use Rattle.cip_problem.specs.Program.{no_row}
use Rattle.cip_presolve.specs.declared.rules.Outcome.{Outcome}
use Rattle.cip_presolve.specs.declared.rules.Outcome.TheVariants.{Kept, Gone, Tightened, NoPoint}

-- no point is feasible where a rule says so
abbrev pub EndsRightly : Program → Outcome → Type 0
EndsRightly program Kept = ⊤
EndsRightly program Gone = ⊤
EndsRightly program (Tightened column) = ⊤
EndsRightly program NoPoint = IsInfeasible program

-- a column, and sides that it may take as a row is dropped: where they leave no value, no point is feasible
pub record IsSingled (program : Program) (number column : ℕ) (sides : Sides) : Type 0 where
  pub inside : column < length program.bounds
  pub plain : is_open (choice_at program.choices column) ≡ false
  pub step : IsExactStep program (with_row (with_sides program column sides) number no_row)
  pub none : is_past sides.low sides.high ≡ true → IsInfeasible program
