-- What a `Program` is to its callers.
use Rattle.cip_problem.specs.Program as problem
use Rattle.cip_problem.specs.WellFormed.{IsWellFormed}
use Rattle.cip_model.specs.Programs.{program_from}
use Rattle.cip_model.specs.declared.programs.Program.TheInside.{Inside}

abbrev pub shown : Inside → problem.Program
shown p = program_from p.parts

abbrev pub IsSound : Inside → Type 0
IsSound p = IsWellFormed (shown p)
