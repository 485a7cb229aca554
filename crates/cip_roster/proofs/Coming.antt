-- A plugin comes from the shelf to the next seat, and room for lines.
use Rattle.std.proofs.Common.{◌≡◌, ℕ, ◌+◌, ◌-◌, ◌*◌, ◌≤◌, List, [], ◌∷◌, ◌++◌, length, map, Option, None, Some, true, false, set, sym, ◌∙◌, ap, refl, arith, get_or, ◌<◌}
use Rattle.std.specs.Prelude.{slice_get, is_some, option_map, Result, OnOk}
use Rattle.std.proofs.lemmas.List.{length-map, map-set}
use Rattle.std.proofs.lemmas.Option.{slice_get-map, slice_get_read, slice_get_within}
use Rattle.std.proofs.lemmas.List.Sums.{count_by-le-length}
use Rattle.cip_events.specs.Names.{shown_name}
use Rattle.cip_plugin.specs.Who.{Who}
use Rattle.cip_plugin.specs.declared.stages.Stage.TheVariants.{Fresh}
use Rattle.cip_plugin.specs.Seats.{Seat, Standing, State, is_live, live_count}
use Rattle.cip_plugin.specs.Steps.{IsSeated, Runs, Takes}
use Rattle.cip_plugin.proofs.Lists.{get_last}
use Rattle.cip_plugin.specs.Wishing.{place_fault}
use Rattle.cip_plugin.specs.declared.faults.WishFault.TheVariants.{TakenPlace}
use Rattle.cip_plugin.proofs.Joining.{unwritten_lines}
use Rattle.cip_roster.specs.Shelves.{shown}
use Rattle.cip_roster.specs.Turns.{StandsAt}
use Rattle.cip_roster.proofs.Wishes.{held_by}
use Rattle.cip_roster.proofs.Sitting.{reserve_room}

-- a plugin came
pub came_once : (place : ℕ) (a b : State) (who : Who) (seat : Seat) → slice_get a.places place ≡ Some (Some who)
    → b.places ≡ set a.places place None → IsSeated who seat → b.seats ≡ a.seats ++ seat ∷ []
    → b.names ≡ a.names ++ shown_name who.label ∷ [] → b.kept ≡ a.kept → b.lines ≡ a.lines → Runs a (Takes place ∷ []) b
came_once place a b who seat was now seated seats names kept lines = (
  b,
  record {
    moves = record {
      who = who;
      seat = seat;
      was = was;
      place_now = now;
      seated = seated;
      seats = seats;
      names = names;
    };
    kept = kept;
    lines = lines ∙ unwritten_lines a.kept a.lines;
  },
  refl,
)

-- a plugin came from a place of a shelf that is shown
pub came_shown : {A : Type 0} (who : A → Who) (xs : List (Option A)) (place : ℕ) (x r dest : Option A) (p : A)
    (a b : State) → a.places ≡ map (shown who) xs → place_fault (slice_get a.places place) ≡ None
    → x ≡ get_or xs place x → r ≡ x → r ≡ Some p → dest ≡ None → b.places ≡ map (shown who) (set xs place dest)
    → (seat : Seat) × IsSeated (who p) seat × (b.seats ≡ a.seats ++ seat ∷ [])
    → b.names ≡ a.names ++ shown_name (who p).label ∷ [] → b.kept ≡ a.kept → b.lines ≡ a.lines
    → Runs a (Takes place ∷ []) b
came_shown {A = A} who xs place x r dest p a b shows fine read same is none later seated names kept lines =
    let there = held_by (slice_get a.places place) fine in
    let far : place < length a.places = slice_get_within a.places place (Some there.0) there.1 in
    let many : length a.places ≡ length xs = ap length shows ∙ length-map xs (shown who) in
    let at : slice_get xs place ≡ Some x = slice_get_read xs (length xs) place x refl (omega arith) read in
    came_once place a b (who p) seated.0
    (ap (λ (places : List (Option Who)). slice_get places place) shows
    ∙ slice_get-map (shown who) xs place
    ∙ ap (option_map (shown who)) at
    ∙ ap (λ (o : Option A). Some (shown who o)) (sym same ∙ is))
    (later ∙ map-set (shown who) xs place dest
    ∙ ap (λ (o : Option A). set (map (shown who) xs) place (shown who o)) none
    ∙ ap (λ (places : List (Option Who)). set places place None) (sym shows))
    seated.1 seated.2 names kept lines

-- nothing is wrong with a place that holds a plugin
pub place_full : {A : Type 0} (who : A → Who) (o : Option A) → true ≡ is_some o
    → place_fault (Some (shown who o)) ≡ None
place_full who None full = cc
place_full who (Some x) full = refl

-- one that holds none is taken
pub place_empty : {A : Type 0} (who : A → Who) (o : Option A) → false ≡ is_some o
    → place_fault (Some (shown who o)) ≡ Some TakenPlace
place_empty who None empty = refl
place_empty who (Some x) empty = cc

-- a place with which nothing is wrong is within the shelf that is shown
pub place_within : {A : Type 0} (who : A → Who) (xs : List (Option A)) (place n : ℕ) → n ≡ length xs
    → place_fault (slice_get (map (shown who) xs) place) ≡ None → place < n
place_within who xs place n count fine =
    let there = held_by (slice_get (map (shown who) xs) place) fine in
    let far : place < length (map (shown who) xs) =
    slice_get_within (map (shown who) xs) place (Some there.0) there.1 in
    let many : length (map (shown who) xs) ≡ length xs = length-map xs (shown who) in
    omega arith

-- it holds a plugin
pub place_holds : {A : Type 0} (who : A → Who) (xs : List (Option A)) (place : ℕ) (x r : Option A)
    → place_fault (slice_get (map (shown who) xs) place) ≡ None → x ≡ get_or xs place x → r ≡ x → r ≡ None → ⊥
place_holds {A = A} who xs place x r fine read same none =
    let there = held_by (slice_get (map (shown who) xs) place) fine in
    let far : place < length xs = place_within who xs place (length xs) refl fine in
    let at : slice_get xs place ≡ Some x = slice_get_read xs (length xs) place x refl far read in
    let clash : Some (Some there.0) ≡ Some None =
    sym there.1 ∙ slice_get-map (shown who) xs place ∙ ap (option_map (shown who)) at
    ∙ ap (λ (o : Option A). Some (shown who o)) (sym same ∙ none) in
    cc

-- it stands there uncalled
pub came_fresh : (xs : List Seat) (b : State) (who : Who) (seat : Seat) → IsSeated who seat → b.seats ≡ xs ++ seat ∷ []
    → StandsAt Fresh b (length xs)
came_fresh xs b who seat seated seats = record {
  seat = seat;
  at = ap (λ (ys : List Seat). slice_get ys (length xs)) seats ∙ get_last xs seat;
  stands = ap (λ (n : Standing). n.stage) seated.standing;
}

-- room for lines of turns, by the slots that are shown as seats
pub turns_room : {A U E : Type 0} (f : A → Seat) (xs : List A) (result : Result U E) (turns n sum len cap : ℕ)
    → OnOk result (len + 2 * sum ≤ cap) → sum ≡ turns + n → n ≡ length xs
    → OnOk result (2 * turns + 2 * live_count (map f xs) ≤ cap - len)
turns_room f xs result turns n sum len cap room is count =
    let most = count_by-le-length is_live (map f xs) in
    let same = length-map xs f in
    reserve_room result turns n sum (live_count (map f xs)) len cap room is (omega arith)
