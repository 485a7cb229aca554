-- What looking at rows and columns comes to.
use Rattle.std.specs.Prelude.{⊤}
use Rattle.cip_problem.specs.Program.{Program}
use Rattle.cip_search.specs.NarrowedPrograms.{IsInfeasible}
use Rattle.cip_presolve.specs.declared.row_looks.RoundEnd.{RoundEnd}
use Rattle.cip_presolve.specs.declared.row_looks.RoundEnd.TheVariants.{Open, NoPoint}

-- no point is feasible where it says so
abbrev pub RoundEndsRightly : Program → RoundEnd → Type 0
RoundEndsRightly program Open = ⊤
RoundEndsRightly program (NoPoint place) = IsInfeasible program
