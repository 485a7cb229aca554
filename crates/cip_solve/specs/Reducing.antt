-- What is searched in place of a program.
use Rattle.std.specs.Prelude.{◌≡◌, Bool, true, false, Option, None, Some}
use Rattle.cip_problem.specs.Program.{Program}
use Rattle.cip_problem.specs.WellFormed.{IsWellFormed}
use Rattle.cip_search.specs.NarrowedPrograms.{IsInfeasible}
use Rattle.cip_solve.specs.Presolved.{Presolved}
use Rattle.cip_solve.specs.PresolvedPrograms.{IsPresolved, IsUnchanged}
use Rattle.cip_solve.specs.Beginning.{AreNearColumns}
use Rattle.cip_solve.specs.CoreStates.{CoreState}

-- a reduced program may be searched in place of a program; where nothing may be presolved it is the program itself
pub record CanBeSearched (presolve : Bool) (program : Program) (presolved : Presolved) : Type 0 where
  pub back : IsPresolved program presolved
  pub near : AreNearColumns presolved.reduced
  pub same : presolve ≡ false → IsUnchanged program presolved

-- a reduced program to be searched, or none, as presolve showed that no point is feasible
abbrev pub IsReducedFor : (presolve : Bool) → Program → Option Presolved → Type 0
IsReducedFor presolve program None = (presolve ≡ true) × IsInfeasible program
IsReducedFor presolve program (Some presolved) = CanBeSearched presolve program presolved

-- a core searches what presolve made of its program
pub record IsOfReduced (core : CoreState) (presolved : Presolved) : Type 0 where
  pub back : IsPresolved core.program presolved
  pub reduced_is : core.reduced ≡ presolved.reduced
  pub steps_are : core.steps ≡ presolved.steps
  pub formed : IsWellFormed core.program
  pub left : IsWellFormed core.reduced
