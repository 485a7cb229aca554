-- What becomes of a kit of plugins in a search.
use Rattle.std.specs.Prelude.{◌≡◌, ◌⊎◌, Bool, true, false, ◌||◌, List, [], Option, None}
use Rattle.cip_events.specs.declared.traces.Trace.{Trace}
use Rattle.cip_problem.specs.Log.{Entry}
use Rattle.cip_plugin.specs.Seats.{State}
use Rattle.cip_solve.specs.Kits.{Stock, is_bare, HasBegun, HasEnded}
use Rattle.cip_solve.specs.SplitsServed.{splits_in, HasServed}

-- nobody is asked in a search: it is to go without plugins, or there are none
abbrev pub is_alone : (plain : Bool) → Stock → Bool
is_alone plain stock = plain || is_bare stock

-- nobody was called, the kit is as it was, and no trace is told
pub record IsLeftAlone (had has : Stock) (trace : Option Trace) : Type 0 where
  pub same : has ≡ had
  pub untold : trace ≡ None

-- all plugins of a kit were taken up, and those of its start had their first calls; each that was on throughout and
-- works on nodes was asked at least as often as the log has splits; then each live one had its last calls, and all went
-- back as done with, those that had seats with their numbers in order. Where lines are kept, the trace has them
pub record HasServedKit (kept : Bool) (log : List Entry) (had has : Stock) (trace : Option Trace) : Type 0 where
  pub between : Stock
  pub begun : State
  pub left : State
  pub begins : HasBegun had between kept begun
  pub served : HasServed (splits_in log) begun left
  pub ends : HasEnded kept left between has trace

-- where nobody is asked the kit is left alone; else its plugins served, unless memory was refused before a node was
-- taken, or presolve showed then that no point is feasible
abbrev pub IsKitAfter : (alone kept : Bool) → List Entry → (had has : Stock) → Option Trace → Type 0
IsKitAfter true kept log had has trace = IsLeftAlone had has trace
IsKitAfter false kept log had has trace =
    HasServedKit kept log had has trace ⊎ (IsLeftAlone had has trace × (log ≡ []))
