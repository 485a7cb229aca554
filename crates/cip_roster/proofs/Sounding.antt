-- What is sound stays so over a run that changes one seat.
use Rattle.std.proofs.Common.{◌≡◌, ℕ, zero, suc, ◌+◌, ◌*◌, ◌≤◌, List, [], ◌∷◌, ◌++◌, length, None, Some, Bool, true, false, cond, set, sym, ◌∙◌, ap, refl, arith, All, length-append, length-set, ⊎_elim}
use Rattle.std.specs.Prelude.{slice_get, is_some, not, ◌||◌}
use Rattle.std.proofs.lemmas.Bool.{cases_eq}
use Rattle.std.proofs.lemmas.Option.{same_Some}
use Rattle.cip_plugin.specs.declared.stages.Stage.{Stage}
use Rattle.cip_plugin.specs.declared.stages.Stage.TheVariants.{Playing, Gone}
use Rattle.cip_plugin.specs.Seats.{Seat, State, is_alive, is_live, is_playing, is_settled, live_count, held_count}
use Rattle.cip_plugin.specs.Steps.{Step, Calls, Notes, Turns, Ranks, Takes, Steps, Runs, Sat, IsCalled, IsTurned, Taken, is_note}
use Rattle.cip_plugin.specs.Wishing.{begins, ends, raised_in}
use Rattle.cip_plugin.proofs.Counting.{count_pushed, count_set, run_measure}
use Rattle.cip_plugin.proofs.Lists.{get_set_other}
use Rattle.cip_roster.specs.KeptRankings.{Room, no_rankings}
use Rattle.cip_roster.specs.Turns.{IsSound, StandsAt}
use Rattle.cip_roster.proofs.Calm.{all_at}
use Rattle.cip_roster.proofs.StillRanked.{ranked_as_none}
use Rattle.cip_roster.proofs.Keeping.{at_place}

-- steps that change no seat but this one
abbrev pub IsOf : ℕ → Step → Type 0
IsOf k (Calls id call) = id ≡ k
IsOf k (Notes id word) = id ≡ k
IsOf k (Turns id on) = id ≡ k
IsOf k (Ranks id priority) = id ≡ k
IsOf k (Takes place) = ⊥

abbrev pub AreOf : ℕ → List Step → Type 0
AreOf k [] = Unit {0}
AreOf k (step ∷ steps) = IsOf k step × AreOf k steps

-- a change of one seat leaves the others, and their number
set_elsewhere : (How : Seat → Seat → Type 0) (id : ℕ) (a b : List Seat) → Sat id How a b
    → ((k : ℕ) → (k ≡ id → ⊥) → slice_get b k ≡ slice_get a k) × (length b ≡ length a)
set_elsewhere How id a b sat = (
  λ k other. ap (λ (seats : List Seat). slice_get seats k) sat.is ∙ get_set_other a id k sat.new other,
  ap length sat.is ∙ length-set a id sat.new,
)

-- what a run of one seat leaves
pub record IsElsewhere (id : ℕ) (a b : State) : Type 0 where
  pub seats : (k : ℕ) → (k ≡ id → ⊥) → slice_get b.seats k ≡ slice_get a.seats k
  pub count : length b.seats ≡ length a.seats
  pub places : b.places ≡ a.places

step_elsewhere : (id : ℕ) (step : Step) (a b : State) → IsOf id step → Steps step a b → IsElsewhere id a b
step_elsewhere id (Calls k call) a b own step =
    let parts = set_elsewhere (IsCalled call) k a.seats b.seats step.moves.0 in
    record { seats = rw (← own) parts.0; count = parts.1; places = step.moves.1 }
step_elsewhere id (Notes k word) a b own step =
    let parts = set_elsewhere (λ s t. (t ≡ s) × (is_note word ≡ true)) k a.seats b.seats step.moves.0 in
    record { seats = rw (← own) parts.0; count = parts.1; places = step.moves.1 }
step_elsewhere id (Turns k on) a b own step =
    let parts = set_elsewhere (IsTurned on) k a.seats b.seats step.moves.0 in
    record { seats = rw (← own) parts.0; count = parts.1; places = step.moves.1 }
step_elsewhere id (Ranks k priority) a b own step =
    let parts = set_elsewhere (λ s t. t ≡ record s { priority = priority }) k a.seats b.seats step.moves.0 in
    record { seats = rw (← own) parts.0; count = parts.1; places = step.moves.1 }
step_elsewhere id (Takes place) a b own step = absurd own

-- a run that changes one seat
pub run_elsewhere : (id : ℕ) (steps : List Step) (a b : State) → AreOf id steps → Runs a steps b → IsElsewhere id a b
run_elsewhere id [] a b own run = record {
  seats = λ k other. ap (λ (s : State). slice_get s.seats k) run;
  count = ap (λ (s : State). length s.seats) run;
  places = ap (λ (s : State). s.places) run;
}
run_elsewhere id (step ∷ steps) a b own run =
    let first = step_elsewhere id step a run.0 own.0 run.1 in
    let second = run_elsewhere id steps run.0 b own.1 run.2 in
    record {
      seats = λ k other. second.seats k other ∙ first.seats k other;
      count = second.count ∙ first.count;
      places = second.places ∙ first.places;
    }

-- all are settled, as all others were and this one is
pub settled_but : (a b : List Seat) (id : ℕ) (s : Seat)
    → ((k : ℕ) → (k ≡ id → ⊥) → slice_get b k ≡ slice_get a k) → slice_get b id ≡ Some s → is_settled s ≡ true
    → All (λ seat. is_settled seat ≡ true) a → All (λ seat. is_settled seat ≡ true) b
settled_but a b id s others at own settled =
    all_at (λ seat. is_settled seat ≡ true) b (λ k t there.
    ⊎_elim
    (λ (same : k ≡ id).
    ap is_settled (same_Some t s (sym there ∙ ap (slice_get b) same ∙ at)) ∙ own)
    (λ (other : k ≡ id → ⊥).
    at_place (λ seat. is_settled seat ≡ true) a k t (sym (others k other) ∙ there) settled)
    (cases_eq k id))

-- a sound state behind a run that changes one seat
pub sound_run : (id : ℕ) (steps : List Step) (a b : State) (room later : Room) (s : Seat) → AreOf id steps
    → Runs a steps b → IsSound a room → slice_get b.seats id ≡ Some s → is_settled s ≡ true
    → 2 * live_count b.seats ≤ later.lines → later.rankings ≡ no_rankings → IsSound b later
sound_run id steps a b room later s own run sound at settled fits none =
    let elsewhere = run_elsewhere id steps a b own run in
    let held = ap held_count elsewhere.places in
    let count = elsewhere.count in
    let numbers = sound.numbers in
    record {
      settled = settled_but a.seats b.seats id s elsewhere.seats at settled sound.settled;
      numbers = omega arith;
      lasts = fits;
      ranked = ranked_as_none b.seats later.rankings none;
    }

-- who plays is settled
pub playing_settled : (s : Seat) → s.standing.stage ≡ Playing → is_settled s ≡ true
playing_settled s is = ap (λ (stage : Stage). is_playing stage || not (is_alive stage)) is

-- who is gone is settled
pub gone_settled : (s : Seat) → s.standing.stage ≡ Gone → is_settled s ≡ true
gone_settled s is = ap (λ (stage : Stage). is_playing stage || not (is_alive stage)) is

-- how many live ones a run leaves that takes none from the shelf
pub live_behind_run : (id : ℕ) (steps : List Step) (a b : State) → AreOf id steps → Runs a steps b
    → live_count b.seats + length (raised_in 0 steps) ≡ live_count a.seats
live_behind_run id steps a b own run =
    let measure = run_measure 0 steps a b run in
    let held = ap held_count (run_elsewhere id steps a b own run).places in
    omega arith

-- a change that ends nobody
pub sound_still : (id : ℕ) (step : Step) (a b : State) (room later : Room) → IsOf id step
    → raised_in 0 (step ∷ []) ≡ [] → Runs a (step ∷ []) b → IsSound a room → StandsAt Playing b id
    → 2 * live_count a.seats ≤ later.lines → later.rankings ≡ no_rankings → IsSound b later
sound_still id step a b room later own quiet run sound stands fits none =
    let live = live_behind_run id (step ∷ []) a b (own, tt) run in
    let calm = ap length quiet in
    sound_run id (step ∷ []) a b room later stands.seat (own, tt) run sound stands.at
    (playing_settled stands.seat stands.stands) (omega arith) none

-- a plugin was closed
pub sound_ended : (id : ℕ) (a b : State) (room later : Room) → Runs a (ends id) b → IsSound a room → StandsAt Gone b id
    → room.lines ≤ later.lines + 2 → later.rankings ≡ no_rankings → IsSound b later
sound_ended id a b room later run sound stands fits none =
    let own : AreOf id (ends id) = (refl, (refl, tt)) in
    let live = live_behind_run id (ends id) a b own run in
    let lasts = sound.lasts in
    sound_run id (ends id) a b room later stands.seat own run sound stands.at
    (gone_settled stands.seat stands.stands) (omega arith) none

-- beside one more nothing else changes
get_beside : {A : Type 0} (xs : List A) (y : A) (k : ℕ) → (k ≡ length xs → ⊥)
    → slice_get (xs ++ y ∷ []) k ≡ slice_get xs k
get_beside [] y zero other = absurd (other refl)
get_beside [] y (suc k) other = refl
get_beside (x ∷ xs) y zero other = refl
get_beside (x ∷ xs) y (suc k) other = get_beside xs y k (λ same. other (ap suc same))

-- the two first calls are of one plugin
pub begins_of : (id : ℕ) (first second : Bool) → AreOf id (begins id first second)
begins_of id true true = (refl, (refl, tt))
begins_of id true false = (refl, (refl, (refl, tt)))
begins_of id false true = (refl, (refl, (refl, tt)))
begins_of id false false = (refl, (refl, (refl, (refl, tt))))

-- one or none
most_one : (b : Bool) → cond b 1 0 ≤ 1
most_one true = omega arith
most_one false = omega arith

-- a plugin was included
pub sound_included : (place : ℕ) (first second : Bool) (a b c : State) (room later : Room)
    → Runs a (Takes place ∷ []) b → Runs b (begins (length a.seats) first second) c → IsSound a room
    → StandsAt Playing c (length a.seats) → 2 * (live_count a.seats + 1) ≤ later.lines
    → later.rankings ≡ no_rankings → IsSound c later
sound_included place first second a b c room later came run sound stands fits none =
    let id = length a.seats in
    let steps = begins id first second in
    let taken : Taken place a came.0 = came.1.moves in
    let same : came.0 ≡ b = sym came.2 in
    let seats : b.seats ≡ a.seats ++ taken.seat ∷ [] = ap (λ (s : State). s.seats) (sym same) ∙ taken.seats in
    let places : b.places ≡ set a.places place None = ap (λ (s : State). s.places) (sym same) ∙ taken.place_now in
    let elsewhere = run_elsewhere id steps b c (begins_of id first second) run in
    let fewer = count_set is_some a.places place (Some taken.who) None taken.was in
    let held_b = ap held_count places in
    let held_c = ap held_count elsewhere.places in
    let count_b : length b.seats ≡ length a.seats + 1 =
    ap length seats ∙ length-append a.seats (taken.seat ∷ []) in
    let count_c = elsewhere.count in
    let live_c = live_behind_run id steps b c (begins_of id first second) run in
    let more = count_pushed is_live a.seats taken.seat in
    let most : cond (is_live taken.seat) 1 0 ≤ 1 = most_one (is_live taken.seat) in
    let live_b = ap live_count seats in
    let numbers = sound.numbers in
    record {
      settled = settled_but a.seats c.seats id stands.seat
          (λ k other. elsewhere.seats k other ∙ ap (λ (s : List Seat). slice_get s k) seats
          ∙ get_beside a.seats taken.seat k other)
          stands.at (playing_settled stands.seat stands.stands) sound.settled;
      numbers = omega arith;
      lasts = omega arith;
      ranked = ranked_as_none c.seats later.rankings none;
    }

-- a step keeps the number of plugins that have seats or stand on the shelf
step_count : (step : Step) (a b : State) → Steps step a b
    → length b.seats + held_count b.places ≡ length a.seats + held_count a.places
step_count (Calls id call) a b step =
    let count = (set_elsewhere (IsCalled call) id a.seats b.seats step.moves.0).1 in
    let held = ap held_count step.moves.1 in
    omega arith
step_count (Notes id word) a b step =
    let count = (set_elsewhere (λ s t. (t ≡ s) × (is_note word ≡ true)) id a.seats b.seats step.moves.0).1 in
    let held = ap held_count step.moves.1 in
    omega arith
step_count (Turns id on) a b step =
    let count = (set_elsewhere (IsTurned on) id a.seats b.seats step.moves.0).1 in
    let held = ap held_count step.moves.1 in
    omega arith
step_count (Ranks id priority) a b step =
    let count = (set_elsewhere (λ s t. t ≡ record s { priority = priority }) id a.seats b.seats step.moves.0).1 in
    let held = ap held_count step.moves.1 in
    omega arith
step_count (Takes place) a b step =
    let taken : Taken place a b = step.moves in
    let fewer = count_set is_some a.places place (Some taken.who) None taken.was in
    let held = ap held_count taken.place_now in
    let count : length b.seats ≡ length a.seats + 1 =
    ap length taken.seats ∙ length-append a.seats (taken.seat ∷ []) in
    omega arith

-- and so does a run
pub run_count : (steps : List Step) (a b : State) → Runs a steps b
    → length b.seats + held_count b.places ≡ length a.seats + held_count a.places
run_count [] a b run =
    ap (λ (s : State). length s.seats + held_count s.places) run
run_count (step ∷ steps) a b run = run_count steps run.0 b run.2 ∙ step_count step a run.0 run.1
