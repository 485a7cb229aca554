-- Calls of a plugin that tells.
use Rattle.std.specs.Prelude.{[], true}
use Rattle.cip_plugin.specs.Calls.{Call, Init, InitSolve, Asked, ExitSolve, Exit, Search, Guesses}
use Rattle.cip_solve_tests.specs.declared.told.Told.{Told}
use Rattle.cip_solve_tests.specs.declared.told.Told.TheVariants as had

-- a call as it is told
abbrev pub told_call : Told → Call
told_call had.Init = Init true
told_call had.InitSolve = InitSolve true
told_call had.Search = Asked Search (Guesses [])
told_call had.ExitSolve = ExitSolve
told_call had.Exit = Exit
