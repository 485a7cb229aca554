-- What sits at a seat, by the slots that are shown as seats.
use Rattle.std.proofs.Common.{◌≡◌, ℕ, ◌+◌, ◌-◌, ◌*◌, ◌<◌, ◌≤◌, Bool, true, ◌&&◌, cond, arith, List, [], ◌∷◌, ◌++◌, length, map, get_or, set, Option, None, Some, sym, ◌∙◌, ap, subst, refl}
use Rattle.std.specs.Prelude.{option_map, slice_get, Result, Ok, Err, OnOk}
use Rattle.cip_plugin.specs.Asking.{asks}
use Rattle.cip_plugin.specs.Calls.{Ask, Call, Separate, Propagate, Price, Search, Branch, Enforce, OnEvent}
use Rattle.cip_plugin.specs.declared.kinds.Kind.{Kind}
use Rattle.cip_plugin.specs.declared.kinds.Kind.TheVariants as kinds
use Rattle.std.proofs.lemmas.Option.{same_Some, slice_get-map, slice_get_past, slice_get_read, slice_get_within}
use Rattle.std.proofs.lemmas.List.{length-map, map-append, map-set}
use Rattle.cip_plugin.specs.declared.stages.Stage.{Stage}
use Rattle.cip_plugin.specs.Lives.{asked_at, plays, turn, word_of_ask}
use Rattle.cip_plugin.specs.Seats.{Seat, Standing, State, is_playing}
use Rattle.cip_plugin.specs.Steps.{IsCalled, Sat}
use Rattle.cip_plugin.specs.Wishing.{is_enabled}
use Rattle.cip_plugin.proofs.Lists.{get_set_same}
use Rattle.cip_roster.specs.Turns.{StandsAt}

-- a place that is shown is there
pub shown_within : {A : Type 0} (seat : A → Seat) (xs : List A) (id : ℕ) (s : Seat)
    → slice_get (map seat xs) id ≡ Some s → id < length xs
shown_within seat xs id s at = subst (λ (n : ℕ). id < n) (length-map xs seat) (slice_get_within (map seat xs) id s at)

-- the same by the number of all
pub seat_within : {A : Type 0} (seat : A → Seat) (xs : List A) (id n : ℕ) (s : Seat) → n ≡ length xs
    → slice_get (map seat xs) id ≡ Some s → id < n
seat_within seat xs id n s count at = subst (λ (m : ℕ). id < m) (sym count) (shown_within seat xs id s at)

-- what is said where nothing is shown
pub said_past : {A B C : Type 0} (f : A → B) (said : Option B → C) (xs ys : List A) (id : ℕ) → ys ≡ xs
    → length ys ≤ id → said None ≡ said (slice_get (map f xs) id)
said_past f said xs ys id same past =
    ap said (sym (slice_get_past (map f xs) id (omega (arith, length-map xs f, ap length same, past))))

-- what is said of what is shown
pub said_there : {A B C : Type 0} (f : A → B) (said : Option B → C) (xs ys : List A) (id : ℕ) (x : A) → ys ≡ xs
    → id < length ys → x ≡ get_or ys id x → said (Some (f x)) ≡ said (slice_get (map f xs) id)
said_there {A = A} f said xs ys id x same within read =
    let at : slice_get xs id ≡ Some x =
    subst (λ (l : List A). slice_get l id ≡ Some x) same (slice_get_read ys (length ys) id x refl within read) in
    let shows : slice_get (map f xs) id ≡ Some (f x) = slice_get-map f xs id ∙ ap (option_map f) at in
    ap said (sym shows)

-- what is read there is what is shown
pub shown_there : {A : Type 0} (seat : A → Seat) (xs : List A) (id : ℕ) (x : A) (s : Seat)
    → slice_get (map seat xs) id ≡ Some s → x ≡ get_or xs id x → slice_get (map seat xs) id ≡ Some (seat x)
shown_there seat xs id x s at is =
    slice_get-map seat xs id
    ∙ rw (slice_get_read xs (length xs) id x refl (shown_within seat xs id s at) is) refl

-- a seat was changed
pub sat_there : {A : Type 0} (seat : A → Seat) (How : Seat → Seat → Type 0) (xs : List A) (id : ℕ) (x y : A) (s : Seat)
    (bs : List Seat) → slice_get (map seat xs) id ≡ Some s → x ≡ get_or xs id x → bs ≡ map seat (set xs id y)
    → How (seat x) (seat y) → Sat id How (map seat xs) bs
sat_there seat How xs id x y s bs at read is how = record {
  old = seat x;
  new = seat y;
  was = shown_there seat xs id x s at read;
  is = is ∙ map-set seat xs id y;
  how = how;
}

-- what a step does at a seat, where other seats were read of it that are the same
pub sat_behind : {A : Type 0} (seat : A → Seat) (How : Seat → Seat → Type 0) (ws xs : List A) (id : ℕ) (x y : A)
    (s : Seat) (bs : List Seat) → map seat xs ≡ map seat ws → slice_get (map seat ws) id ≡ Some s → x ≡ get_or xs id x
    → bs ≡ map seat (set xs id y) → How (seat x) (seat y) → Sat id How (map seat ws) bs
sat_behind seat How ws xs id x y s bs same at read is how =
    subst (λ (before : List Seat). Sat id How before bs) same
    (sat_there seat How xs id x y s bs (ap (λ (seats : List Seat). slice_get seats id) same ∙ at) read is how)

-- how it stands there now
pub stands_there : {A : Type 0} (seat : A → Seat) (xs : List A) (id : ℕ) (y : A) (s : Seat) (b : State) (stage : Stage)
    → slice_get (map seat xs) id ≡ Some s → b.seats ≡ map seat (set xs id y) → (seat y).standing.stage ≡ stage
    → StandsAt stage b id
stands_there seat xs id y s b stage at is stands = record {
  seat = seat y;
  at = ap (λ (seats : List Seat). slice_get seats id) (is ∙ map-set seat xs id y)
      ∙ get_set_same (map seat xs) id s (seat y) at;
  stands = stands;
}

-- a call by what it answered
pub called_as : (call : Bool → Call) (s t : Seat) (r b : Bool) → r ≡ b → IsCalled (call b) s t → IsCalled (call r) s t
called_as call s t r b is called = subst (λ (x : Bool). IsCalled (call x) s t) (sym is) called

-- who is read there is who is shown
pub seat_there : {A : Type 0} (seat : A → Seat) (xs : List A) (id : ℕ) (x : A) (s : Seat)
    → slice_get (map seat xs) id ≡ Some s → x ≡ get_or xs id x → seat x ≡ s
seat_there seat xs id x s at read = same_Some (seat x) s (sym (shown_there seat xs id x s at read) ∙ at)

-- whether it is enabled there
pub on_there : {A : Type 0} (seat : A → Seat) (xs : List A) (id : ℕ) (x : A) (s : Seat) (on : Bool)
    → slice_get (map seat xs) id ≡ Some s → x ≡ get_or xs id x → is_enabled (slice_get (map seat xs) id) ≡ on
    → (seat x).standing.on ≡ on
on_there seat xs id x s on at read is = ap is_enabled (sym (shown_there seat xs id x s at read)) ∙ is

-- how it stood there
pub stage_there : {A : Type 0} (seat : A → Seat) (xs : List A) (id : ℕ) (x : A) (s : Seat) (stage : Stage)
    → slice_get (map seat xs) id ≡ Some s → x ≡ get_or xs id x → s.standing.stage ≡ stage
    → (seat x).standing.stage ≡ stage
stage_there seat xs id x s stage at read stands =
    ap (λ (t : Seat). t.standing.stage) (seat_there seat xs id x s at read) ∙ stands

-- one more behind what is shown
pub pushed_shown : {A B : Type 0} (f : A → B) (xs ys : List A) (y : A) → ys ≡ xs ++ y ∷ []
    → map f ys ≡ map f xs ++ f y ∷ []
pushed_shown f xs ys y is = ap (map f) is ∙ map-append f xs (y ∷ [])

-- room for lines, where a growth wasn't refused
pub reserve_room : {U E : Type 0} (result : Result U E) (turns seats sum live len cap : ℕ)
    → OnOk result (len + 2 * sum ≤ cap) → sum ≡ turns + seats → live ≤ seats
    → OnOk result (2 * turns + 2 * live ≤ cap - len)
reserve_room (Ok u) turns seats sum live len cap room is fits = omega (arith, room, is, fits)
reserve_room (Err e) turns seats sum live len cap room is fits = tt

-- the words of each kind are those of what it is asked
plays_asks : (kind : Kind) (ask : Ask) → plays kind (word_of_ask ask) ≡ asks kind ask
plays_asks kinds.Separator = elim [
  | Separate ↦ refl
  | Propagate ↦ refl
  | Price block costs ↦ refl
  | Search ↦ refl
  | Branch ↦ refl
  | Enforce ↦ refl
  | OnEvent event ↦ refl
]
plays_asks kinds.Propagator = elim [
  | Separate ↦ refl
  | Propagate ↦ refl
  | Price block costs ↦ refl
  | Search ↦ refl
  | Branch ↦ refl
  | Enforce ↦ refl
  | OnEvent event ↦ refl
]
plays_asks kinds.Pricer = elim [
  | Separate ↦ refl
  | Propagate ↦ refl
  | Price block costs ↦ refl
  | Search ↦ refl
  | Branch ↦ refl
  | Enforce ↦ refl
  | OnEvent event ↦ refl
]
plays_asks kinds.Heuristic = elim [
  | Separate ↦ refl
  | Propagate ↦ refl
  | Price block costs ↦ refl
  | Search ↦ refl
  | Branch ↦ refl
  | Enforce ↦ refl
  | OnEvent event ↦ refl
]
plays_asks kinds.BranchRule = elim [
  | Separate ↦ refl
  | Propagate ↦ refl
  | Price block costs ↦ refl
  | Search ↦ refl
  | Branch ↦ refl
  | Enforce ↦ refl
  | OnEvent event ↦ refl
]
plays_asks kinds.ConsHandler = elim [
  | Separate ↦ refl
  | Propagate ↦ refl
  | Price block costs ↦ refl
  | Search ↦ refl
  | Branch ↦ refl
  | Enforce ↦ refl
  | OnEvent event ↦ refl
]
plays_asks kinds.EventHandler = elim [
  | Separate ↦ refl
  | Propagate ↦ refl
  | Price block costs ↦ refl
  | Search ↦ refl
  | Branch ↦ refl
  | Enforce ↦ refl
  | OnEvent event ↦ refl
]

-- what the word of a question makes of how a plugin stands
asked_as : (kind : Kind) (now : Standing) (ask : Ask)
    → turn kind now (word_of_ask ask) ≡ asked_at (plays kind (word_of_ask ask)) now
asked_as kind now Separate = refl
asked_as kind now Propagate = refl
asked_as kind now (Price block costs) = refl
asked_as kind now Search = refl
asked_as kind now Branch = refl
asked_as kind now Enforce = refl
asked_as kind now (OnEvent event) = refl

-- who may be asked so stands as before
pub asked_turn : (kind : Kind) (now : Standing) (ask : Ask) → asks kind ask ≡ true
    → (is_playing now.stage && now.on) ≡ true → turn kind now (word_of_ask ask) ≡ Some now
asked_turn kind now ask fits on =
    asked_as kind now ask
    ∙ ap (λ (b : Bool). asked_at b now) (plays_asks kind ask ∙ fits)
    ∙ ap (λ (b : Bool). cond b (Some now) None) on
