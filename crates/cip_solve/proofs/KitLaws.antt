-- What becomes of a kit: the room for its plugins stays, and it is told by whether anybody is asked.
use Rattle.std.proofs.Common.{◌≡◌, inr, ℕ, ◌+◌, ◌≤◌, Bool, true, false, List, [], Option, None, refl, sym, subst}
use Rattle.cip_events.specs.declared.traces.Trace.{Trace}
use Rattle.cip_problem.specs.Log.{Entry}
use Rattle.cip_plugin.specs.Seats.{State}
use Rattle.cip_roster.proofs.Sounding.{run_count}
use Rattle.cip_solve.specs.Kits.{Stock, HasRoomFor}
use Rattle.cip_solve.specs.KitsServed.{IsKitAfter}
use Rattle.cip_solve.specs.SplitsServed.{HasServed}

-- a run keeps the number of plugins, so that the room for them is there still
pub room_there : (held most n : ℕ) (a b : State) → HasRoomFor held most a → HasServed n a b → HasRoomFor held most b
room_there held most n a b room s = subst (λ count. held + count ≤ most) (sym (run_count s.steps a b s.run)) room

-- whether anybody is asked is the same
pub kit_same : (kept : Bool) (log : List Entry) (had has : Stock) (trace : Option Trace) (a b : Bool) → a ≡ b → IsKitAfter a kept log had has trace → IsKitAfter b kept log had has trace
kit_same kept log had has trace a b e k = subst (λ alone. IsKitAfter alone kept log had has trace) e k

-- where nobody is asked it is left alone
pub left_alone : (kept : Bool) (log : List Entry) (stock : Stock) (trace : Option Trace) → trace ≡ None → IsKitAfter true kept log stock stock trace
left_alone kept log stock trace e = record { same = refl; untold = e }

-- before a node was taken nobody was called
pub nobody_called : (alone kept : Bool) (log : List Entry) (stock : Stock) (trace : Option Trace) → log ≡ [] → trace ≡ None → IsKitAfter alone kept log stock stock trace
nobody_called true kept log stock trace l e = record { same = refl; untold = e }
nobody_called false kept log stock trace l e = inr (record { same = refl; untold = e }, l)

-- the same lines are told
pub kit_told : (kept : Bool) (log : List Entry) (had has : Stock) (trace told : Option Trace) → told ≡ trace → IsKitAfter false kept log had has trace → IsKitAfter false kept log had has told
kit_told kept log had has trace told e k = subst (IsKitAfter false kept log had has) (sym e) k
