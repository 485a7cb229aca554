-- Runs of one step and of two, from what changed at a seat and what was written.
use Rattle.std.proofs.Common.{◌≡◌, ℕ, List, [], ◌∷◌, ◌++◌, Some, Bool, true, false, cond, append-nil, sym, ◌∙◌, refl}
use Rattle.std.specs.Prelude.{slice_get, ℤ}
use Rattle.cip_plugin.specs.Calls.{Call}
use Rattle.cip_plugin.specs.Seats.{Seat, State}
use Rattle.cip_plugin.specs.Lives.{word_of}
use Rattle.cip_plugin.specs.Steps.{Step, Calls, Notes, Turns, Ranks, Steps, Runs, Sat, IsCalled, IsTurned, line, switch_word, is_note}
use Rattle.cip_events.specs.declared.words.Word.{Word}
use Rattle.cip_events.specs.declared.traces.TraceLine.{TraceLine}
use Rattle.cip_plugin.proofs.Lists.{set_self}

-- no line is written, kept or not
pub unwritten_lines : (kept : Bool) (lines : List TraceLine) → lines ≡ cond kept (lines ++ []) lines
unwritten_lines true lines = sym (append-nil lines)
unwritten_lines false lines = refl

-- one step
pub stepped : (step : Step) (a b : State) → Steps step a b → Runs a (step ∷ []) b
stepped step a b took = (b, took, refl)

-- being disabled or enabled
pub turned_once : (a b : State) (id : ℕ) (on : Bool) → Sat id (IsTurned on) a.seats b.seats
    → b.places ≡ a.places → b.names ≡ a.names → b.kept ≡ a.kept
    → b.lines ≡ cond a.kept (a.lines ++ line id (switch_word on) ∷ []) a.lines
    → Runs a (Turns id on ∷ []) b
turned_once a b id on sat places names kept lines =
    stepped (Turns id on) a b (record { moves = (sat, places, names); kept = kept; lines = lines })

-- a new priority
pub ranked_once : (a b : State) (id : ℕ) (priority : ℤ)
    → Sat id (λ s t. t ≡ record s { priority = priority }) a.seats b.seats
    → b.places ≡ a.places → b.names ≡ a.names → b.kept ≡ a.kept → b.lines ≡ a.lines → Runs a (Ranks id priority ∷ []) b
ranked_once a b id priority sat places names kept lines =
    stepped (Ranks id priority) a b
    (record { moves = (sat, places, names); kept = kept; lines = lines ∙ unwritten_lines a.kept a.lines })

-- a note
pub noted_once : (a b : State) (id : ℕ) (seat : Seat) (word : Word) → is_note word ≡ true
    → slice_get a.seats id ≡ Some seat → b.seats ≡ a.seats → b.places ≡ a.places → b.names ≡ a.names → b.kept ≡ a.kept
    → b.lines ≡ cond a.kept (a.lines ++ line id word ∷ []) a.lines → Runs a (Notes id word ∷ []) b
noted_once a b id seat word note at seats places names kept lines =
    let sat : Sat id (λ s t. (t ≡ s) × (is_note word ≡ true)) a.seats b.seats = record {
      old = seat;
      new = seat;
      was = at;
      is = seats ∙ sym (set_self a.seats id seat at);
      how = (refl, note);
    } in
    stepped (Notes id word) a b (record { moves = (sat, places, names); kept = kept; lines = lines })

-- one call
pub called_once : (a b : State) (id : ℕ) (call : Call) → Sat id (IsCalled call) a.seats b.seats
    → b.places ≡ a.places → b.names ≡ a.names → b.kept ≡ a.kept
    → b.lines ≡ cond a.kept (a.lines ++ line id (word_of call) ∷ []) a.lines
    → Runs a (Calls id call ∷ []) b
called_once a b id call sat places names kept lines =
    (b, record { moves = (sat, places, names); kept = kept; lines = lines }, refl)
