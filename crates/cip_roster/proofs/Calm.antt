-- Asking and noting leave each plugin as it stands: runs of such steps keep all but what is told.
use Rattle.std.proofs.Common.{◌≡◌, ℕ, zero, suc, ◌+◌, List, [], ◌∷◌, ◌++◌, length, map, Some, Bool, true, false, eqb, cond, set, sym, ◌∙◌, ap, refl, All, count_by, get_or}
use Rattle.std.specs.Prelude.{slice_get, option_map, ℤ, ◌&&◌, ◌||◌, not}
use Rattle.std.proofs.lemmas.Option.{slice_get-map, same_Some, slice_get-get_or}
use Rattle.std.proofs.lemmas.List.{map-set, length-map}
use Rattle.std.proofs.lemmas.List.Sums.{sum_by-cons}
use Rattle.cip_events.specs.declared.masks.EventMask.{EventMask}
use Rattle.cip_events.specs.declared.words.Word.TheVariants as say
use Rattle.cip_plugin.specs.declared.kinds.Kind.{Kind}
use Rattle.cip_plugin.specs.Calls.{Ask, Answer, Cuts, Reductions, Prices, Guesses, Splits, Says, Wishes, NoAnswer, Init, InitSolve, Asked, ExitSolve, Exit}
use Rattle.cip_plugin.specs.Asking.{asks, count_past}
use Rattle.cip_plugin.specs.Seats.{Standing, Seat, State, is_alive, is_playing, is_settled, live_count}
use Rattle.cip_plugin.specs.Steps.{Step, Calls, Notes, Turns, Ranks, Takes, Steps, Runs, Sat, IsCalled, is_note}
use Rattle.cip_plugin.specs.Calling.{all_turns, dropped, turn_of}
use Rattle.cip_plugin.proofs.Lists.{set_self}
use Rattle.cip_plugin.proofs.Onward.{ask_stands}
use Rattle.cip_roster.specs.Turns.{CanBeAsked}
use Rattle.cip_roster.proofs.Keeping.{at_place}

-- what of a seat no asking changes
pub record Face : Type 0 where
  pub kind : Kind
  pub priority : ℤ
  pub interest : EventMask
  pub standing : Standing
  pub offs : ℕ

abbrev pub face : Seat → Face
face seat = record {
  kind = seat.who.kind;
  priority = seat.priority;
  interest = seat.interest;
  standing = seat.standing;
  offs = seat.offs;
}

-- a step that asks or notes
abbrev pub IsCalm : Step → Type 0
IsCalm (Calls id (Asked ask given)) = Unit {0}
IsCalm (Calls id call) = ⊥
IsCalm (Notes id word) = Unit {0}
IsCalm step = ⊥

abbrev pub AreCalm : List Step → Type 0
AreCalm [] = Unit {0}
AreCalm (step ∷ steps) = IsCalm step × AreCalm steps

-- seats with the same faces, and the same places
pub record IsAlike (a b : State) : Type 0 where
  pub faces : map face b.seats ≡ map face a.seats
  pub places : b.places ≡ a.places

-- a change of one seat that keeps its face
alike_set : (How : Seat → Seat → Type 0) (id : ℕ) (xs ys : List Seat) → Sat id How xs ys
    → ((s t : Seat) → How s t → face t ≡ face s) → map face ys ≡ map face xs
alike_set How id xs ys sat keeps =
    let there : slice_get (map face xs) id ≡ Some (face sat.old) =
    slice_get-map face xs id ∙ ap (option_map face) sat.was in
    ap (map face) sat.is ∙ map-set face xs id sat.new
    ∙ ap (set (map face xs) id) (keeps sat.old sat.new sat.how)
    ∙ set_self (map face xs) id (face sat.old) there

-- who was asked has the same face
called_face : (ask : Ask) (given : Answer) (s t : Seat) → IsCalled (Asked ask given) s t → face t ≡ face s
called_face ask given s t called =
    ap face called.same
    ∙ ap (λ (k : Kind). record {
      kind = k;
      priority = s.priority;
      interest = s.interest;
      standing = t.standing;
      offs = s.offs;
    }) called.kind
    ∙ ap (λ (n : Standing). record {
      kind = s.who.kind;
      priority = s.priority;
      interest = s.interest;
      standing = n;
      offs = s.offs;
    })
    (sym (ask_stands s.who.kind s.standing ask t.standing called.turn))

-- one calm step
step_calm : (step : Step) (a b : State) → IsCalm step → Steps step a b → IsAlike a b
step_calm (Calls id (Asked ask given)) a b calm step = record {
  faces = alike_set (IsCalled (Asked ask given)) id a.seats b.seats step.moves.0 (called_face ask given);
  places = step.moves.1;
}
step_calm (Calls id (Init was)) a b calm step = absurd calm
step_calm (Calls id (InitSolve was)) a b calm step = absurd calm
step_calm (Calls id ExitSolve) a b calm step = absurd calm
step_calm (Calls id Exit) a b calm step = absurd calm
step_calm (Notes id word) a b calm step = record {
  faces = alike_set (λ s t. (t ≡ s) × (is_note word ≡ true)) id a.seats b.seats step.moves.0
      (λ s t how. ap face how.0);
  places = step.moves.1;
}
step_calm (Turns id on) a b calm step = absurd calm
step_calm (Ranks id priority) a b calm step = absurd calm
step_calm (Takes place) a b calm step = absurd calm

-- a calm run
pub run_calm : (steps : List Step) (a b : State) → AreCalm steps → Runs a steps b → IsAlike a b
run_calm [] a b calm run = record {
  faces = ap (λ (s : State). map face s.seats) run;
  places = ap (λ (s : State).
      s.places) run;
}
run_calm (step ∷ steps) a b calm run =
    let first = step_calm step a run.0 calm.0 run.1 in
    let second = run_calm steps run.0 b calm.1 run.2 in
    record { faces = second.faces ∙ first.faces; places = second.places ∙ first.places }

-- calm steps, and others
pub calm-append : (xs ys : List Step) → AreCalm xs → AreCalm ys → AreCalm (xs ++ ys)
calm-append [] ys first second = second
calm-append (x ∷ xs) ys first second = (first.0, calm-append xs ys first.1 second)

-- a note of what was dropped is calm
pub dropped_calm : (id count : ℕ) → AreCalm (dropped id count)
dropped_calm id count =
    elim (eqb count 0) as (λ b. AreCalm (cond b [] (Notes id (say.Dropped count) ∷ []))) [
      | true ↦ tt
      | false ↦ (
        tt,
        tt,
      )
    ]

-- a turn is calm
pub turn_calm : (id : ℕ) (ask : Ask) (answer : Answer) → AreCalm (turn_of id ask answer)
turn_calm id ask (Cuts xs) = (tt, dropped_calm id (count_past (Cuts xs)))
turn_calm id ask (Reductions xs) = (tt, dropped_calm id (count_past (Reductions xs)))
turn_calm id ask (Prices brought) = (tt, dropped_calm id (count_past (Prices brought)))
turn_calm id ask (Guesses xs) = (tt, dropped_calm id (count_past (Guesses xs)))
turn_calm id ask (Splits split) = (tt, dropped_calm id (count_past (Splits split)))
turn_calm id ask (Says said) = (tt, dropped_calm id (count_past (Says said)))
turn_calm id ask (Wishes xs) = (tt, dropped_calm id (count_past (Wishes xs)))
turn_calm id ask NoAnswer = (tt, (tt, tt))

-- all turns are calm
pub turns_calm : (ask : Ask) (heard : List (ℕ × Answer)) → AreCalm (all_turns ask heard)
turns_calm ask [] = tt
turns_calm ask (h ∷ heard) =
    calm-append (turn_of h.0 ask h.1) (all_turns ask heard) (turn_calm h.0 ask h.1) (turns_calm ask heard)

-- what stands at a place of a list that is shown
pub shown_at : {A B : Type 0} (f : A → B) (xs : List A) (i : ℕ) (y : B) → slice_get (map f xs) i ≡ Some y
    → (x : A) × (slice_get xs i ≡ Some x) × (f x ≡ y)
shown_at f [] i y at = cc
shown_at f (x ∷ xs) zero y at = (x, refl, same_Some (f x) y at)
shown_at f (x ∷ xs) (suc i) y at = shown_at f xs i y at

-- a seat with the same face stands where one stood
pub alike_at : (a b : State) (id : ℕ) (s : Seat) → IsAlike a b → slice_get a.seats id ≡ Some s
    → (t : Seat) × (slice_get b.seats id ≡ Some t) × (face t ≡ face s)
alike_at a b id s alike at =
    shown_at face b.seats id (face s)
    (ap (λ (faces : List Face). slice_get faces id) alike.faces
    ∙ slice_get-map face a.seats id ∙ ap (option_map face) at)

-- who may be asked still may
pub asked_still : (a b : State) (ask : Ask) (id : ℕ) → IsAlike a b → CanBeAsked a ask id → CanBeAsked b ask id
asked_still a b ask id alike can =
    let now = alike_at a b id can.seat alike can.at in
    record {
      seat = now.0;
      at = now.1;
      on = ap (λ (f : Face). is_playing f.standing.stage && f.standing.on) now.2 ∙ can.on;
      fits = ap (λ (f : Face). asks f.kind ask) now.2 ∙ can.fits;
    }

-- a count, by what is shown
count_shown : {A B : Type 0} (f : A → B) (test : B → Bool) (xs : List A)
    → count_by test (map f xs) ≡ count_by (λ x. test (f x)) xs
count_shown f test [] = refl
count_shown f test (x ∷ xs) =
    sum_by-cons (λ y. cond (test y) 1 0) (f x) (map f xs)
    ∙ ap (λ (n : ℕ). cond (test (f x)) 1 0 + n) (count_shown f test xs)
    ∙ sym (sum_by-cons (λ y. cond (test (f y)) 1 0) x xs)

-- what holds at each place holds of all
pub all_at : {A : Type 0} (P : A → Type 0) (xs : List A) → ((i : ℕ) (x : A) → slice_get xs i ≡ Some x → P x) → All P xs
all_at P xs each = λ i d within. each i (get_or xs i d) (slice_get-get_or xs i d within)

-- as many seats
pub alike_length : (a b : State) → IsAlike a b → length b.seats ≡ length a.seats
alike_length a b alike =
    sym (length-map b.seats face) ∙ ap length alike.faces ∙ length-map a.seats face

-- as many live ones
pub alike_live : (a b : State) → IsAlike a b → live_count b.seats ≡ live_count a.seats
alike_live a b alike =
    sym (count_shown face (λ f. is_alive f.standing.stage) b.seats)
    ∙ ap (count_by (λ (f : Face). is_alive f.standing.stage)) alike.faces
    ∙ count_shown face (λ f. is_alive f.standing.stage) a.seats

-- those that are settled stay so
pub settled_alike : (a b : State) → IsAlike a b → All (λ seat. is_settled seat ≡ true) a.seats
    → All (λ seat. is_settled seat ≡ true) b.seats
settled_alike a b alike settled =
    let back : IsAlike b a = record { faces = sym alike.faces; places = sym alike.places } in
    all_at (λ seat. is_settled seat ≡ true) b.seats (λ i t at.
    let old = alike_at b a i t back at in
    ap (λ (f : Face). is_playing f.standing.stage || not (is_alive f.standing.stage)) (sym old.2)
    ∙ at_place (λ seat. is_settled seat ≡ true) a.seats i old.0 old.1 settled)
