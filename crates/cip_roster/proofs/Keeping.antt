-- What stands at a place, and notes.
use Rattle.std.proofs.Common.{◌≡◌, ℕ, List, [], ◌∷◌, ◌++◌, Option, None, Some, true, cond, subst, refl, All}
use Rattle.std.specs.Prelude.{slice_get, IsSome}
use Rattle.std.proofs.lemmas.Option.{slice_get_within, get_or_from_slice_get}
use Rattle.cip_plugin.specs.Seats.{State}
use Rattle.cip_events.specs.declared.words.Word.{Word}
use Rattle.cip_plugin.specs.Steps.{Notes, Runs, is_note, line}
use Rattle.cip_plugin.proofs.Joining.{noted_once}

-- what holds of all holds of what stands at a place
pub at_place : {A : Type 0} (P : A → Type 0) (xs : List A) (i : ℕ) (x : A) → slice_get xs i ≡ Some x → All P xs → P x
at_place P xs i x at all =
    subst P (get_or_from_slice_get xs i x x at) (all i x (slice_get_within xs i x at))

-- what is there
pub some_at : {A : Type 0} (o : Option A) → IsSome o → (x : A) × (o ≡ Some x)
some_at None is = cc
some_at (Some x) is = (x, refl)

-- a note about a plugin that has a seat
pub noted_some : (a b : State) (id : ℕ) (word : Word) → is_note word ≡ true → IsSome (slice_get a.seats id)
    → b.seats ≡ a.seats → b.places ≡ a.places → b.names ≡ a.names → b.kept ≡ a.kept
    → b.lines ≡ cond a.kept (a.lines ++ line id word ∷ []) a.lines → Runs a (Notes id word ∷ []) b
noted_some a b id word note there seats places names kept lines =
    let at = some_at (slice_get a.seats id) there in
    noted_once a b id at.0 word note at.1 seats places names kept lines
