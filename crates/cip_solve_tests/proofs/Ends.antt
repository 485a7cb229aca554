-- What wishes, calls and refusals keep.
use Rattle.std.proofs.Common.{◌≡◌, ℕ, ◌+◌, List, [], ◌∷◌, length, All, sym, subst}
use Rattle.std.specs.Prelude.{slice_get, IsSome, Result, Ok, Err, OnOk, MatchResult}
use Rattle.cip_events.specs.declared.words.Word.{Word}
use Rattle.cip_plugin.specs.Calls.{Ask}
use Rattle.cip_plugin.specs.declared.asking.Given.{Given}
use Rattle.cip_plugin.specs.declared.kinds.Kind.{Kind}
use Rattle.cip_plugin.specs.declared.proposals.Wish.{Wish}
use Rattle.cip_plugin.specs.declared.faults.WishFault.{WishFault}
use Rattle.cip_plugin.specs.Seats.{Seat, State, held_count}
use Rattle.cip_plugin.specs.Steps.{Notes, Runs}
use Rattle.cip_plugin.specs.Calling.{all_turns}
use Rattle.cip_roster.specs.Turns.{CalledKind}
use Rattle.cip_roster.specs.Wished.{Ran, WasGranted, WasRefused}
use Rattle.cip_roster.proofs.Delivery.{ran_more}
use Rattle.cip_roster.proofs.Sounding.{run_count}

-- a wish takes steps, or none
pub ran_wish : {A : Type 0} (wish : Wish) (a b : State) (result : Result A WishFault)
    → MatchResult result (λ _. WasGranted wish a b) (λ fault. WasRefused wish fault a b) → Ran a b
ran_wish wish a b (Ok x) came = record { steps = came.granted.steps; run = came.granted.run }
ran_wish wish a b (Err fault) came = record { steps = []; run = came.same }

-- no plugin is lost
pub ran_count : (a b : State) → Ran a b → length b.seats + held_count b.places ≡ length a.seats + held_count a.places
ran_count a b ran = run_count ran.steps a b ran.run

-- nor by a call
pub called_count : (kind : Kind) (ask : Ask) (a b : State) (had has : List (ℕ × Given))
    → CalledKind kind ask a b had has
    → length b.seats + held_count b.places ≡ length a.seats + held_count a.places
called_count kind ask a b had has call = run_count (all_turns ask call.called.heard) a b call.called.run

-- two notes
pub ran_notes : {A E : Type 0} (a b c : State) (id other : ℕ) (word last : Word) (result : Result A E)
    → Runs a (Notes id word ∷ []) b → OnOk result (Runs b (Notes other last ∷ []) c) → OnOk result (Ran a c)
ran_notes a b c id other word last (Ok x) first second =
    ran_more a b c (Notes id word ∷ []) first (record { steps = Notes other last ∷ []; run = second })
ran_notes a b c id other word last (Err e) first second = tt

-- who gave something has a seat, by the list as it is lent
pub seated_lent : (seats : List Seat) (xs ys : List (ℕ × Given)) → ys ≡ xs
    → All (λ entry. IsSome (slice_get seats entry.0)) xs → All (λ entry. IsSome (slice_get seats entry.0)) ys
seated_lent seats xs ys same all =
    subst (λ (entries : List (ℕ × Given)). All (λ entry. IsSome (slice_get seats entry.0)) entries) (sym same) all
