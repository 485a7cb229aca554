-- What presolve answers.
use Rattle.cip_problem.specs.Program.{Program}
use Rattle.cip_problem.specs.WellFormed.{IsWellFormed}
use Rattle.cip_presolve.specs.SearchState.{IsWayBack}
use Rattle.cip_search.specs.NarrowedPrograms.{IsInfeasible}
use Rattle.cip_presolve.specs.StepsBack.{way_back}
use Rattle.cip_presolve.specs.declared.left_programs.Presolved.{Presolved}
use Rattle.cip_presolve.specs.PresolvedPrograms.{IsPresolved, IsExactlyPresolved}
use Rattle.cip_presolve.specs.declared.presolved.PresolveEnd.{PresolveEnd}
use Rattle.cip_presolve.specs.declared.presolved.PresolveEnd.TheVariants.{Reduced, NoPoint}

-- an answer is right: a reduced program, or that no point is feasible
abbrev pub PresolveIsRight : Program → PresolveEnd → Type 0
PresolveIsRight program (Reduced presolved) = IsPresolved program presolved
PresolveIsRight program (NoPoint place) = IsInfeasible program

abbrev pub PresolveAllIsRight : Program → PresolveEnd → Type 0
PresolveAllIsRight program (Reduced presolved) = IsExactlyPresolved program presolved
PresolveAllIsRight program (NoPoint place) = IsInfeasible program

-- the reduced program may be searched in place of the program: points and leaves come back
abbrev pub PresolvedLeadsBack : Type 0
PresolvedLeadsBack =
    (program : Program) (presolved : Presolved)
    → IsWellFormed program → IsWellFormed presolved.reduced → IsPresolved program presolved
    → IsWayBack program presolved.reduced (way_back presolved.steps)
