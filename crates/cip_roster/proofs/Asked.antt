-- Who may be asked as an event is told, and who wasn't called yet.
use Rattle.std.proofs.Common.{◌≡◌, ℕ, zero, suc, ◌<◌, true, List, [], ◌∷◌, length, Option, None, Some, refl, sym, ◌∙◌, subst, arith, All, true≢false}
use Rattle.std.specs.Prelude.{slice_get}
use Rattle.std.proofs.lemmas.Bool.{and_parts}
use Rattle.cip_events.specs.declared.events.Event.{Event}
use Rattle.cip_plugin.specs.Asking.{asks}
use Rattle.cip_plugin.specs.Calling.{is_ready, same_kind}
use Rattle.cip_plugin.specs.Calls.{OnEvent}
use Rattle.cip_plugin.specs.Delivering.{hears_there}
use Rattle.cip_plugin.specs.Seats.{Seat, State, is_on}
use Rattle.cip_plugin.specs.Wishing.{hears}
use Rattle.cip_plugin.specs.declared.kinds.Kind.{Kind}
use Rattle.cip_plugin.specs.declared.kinds.Kind.TheVariants as kinds
use Rattle.cip_plugin.specs.declared.stages.Stage.TheVariants.{Fresh}
use Rattle.cip_roster.specs.Begun.{IsFresh}
use Rattle.cip_roster.specs.Turns.{CanBeAsked, StandsAt}
use Rattle.cip_roster.proofs.Beginning.{BegunSoFar}
use Rattle.cip_roster.proofs.Keeping.{at_place}

-- a handler is asked by an event
handler_asks : (event : Event) (k : Kind) → same_kind kinds.EventHandler k ≡ true → asks k (OnEvent event) ≡ true
handler_asks event kinds.Separator is = cc
handler_asks event kinds.Propagator is = cc
handler_asks event kinds.Pricer is = cc
handler_asks event kinds.Heuristic is = cc
handler_asks event kinds.BranchRule is = cc
handler_asks event kinds.ConsHandler is = cc
handler_asks event kinds.EventHandler is = refl

pub hearing_can : (event : Event) (id : ℕ) (a r : State) (o : Option Seat) → slice_get a.seats id ≡ o
    → hears_there event o ≡ true → r ≡ a → CanBeAsked r (OnEvent event) id
hearing_can event id a r None at is same = absurd (true≢false (sym is))
hearing_can event id a r (Some s) at is same =
    let ready = and_parts (is_ready kinds.EventHandler s) (hears event s) is in
    let both = and_parts (is_on s) (same_kind kinds.EventHandler s.who.kind) ready.0 in
    subst (λ (t : State). CanBeAsked t (OnEvent event) id) (sym same) (record {
      seat = s;
      at = at;
      on = both.0;
      fits = handler_asks event s.who.kind both.1;
    })

seat_at : (seats : List Seat) (i : ℕ) → i < length seats → (s : Seat) × (slice_get seats i ≡ Some s)
seat_at [] i within = absurd (omega (arith, within))
seat_at (s ∷ seats) zero within = (s, refl)
seat_at (s ∷ seats) (suc i) within = seat_at seats i (omega (arith, within))

-- the next one to begin
pub fresh_at : (i : ℕ) (a b : State) → BegunSoFar i a b → All IsFresh a.seats → i < length a.seats
    → StandsAt Fresh b i
fresh_at i a b so_far fresh within =
    let found = seat_at a.seats i within in
    record {
      seat = found.0;
      at = so_far.rest i (omega arith) ∙ found.1;
      stands = at_place IsFresh a.seats i found.0 found.1 fresh;
    }
