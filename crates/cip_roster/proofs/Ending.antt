-- How a roster ends, one plugin after the other.
use Rattle.std.proofs.Common.{◌≡◌, ℕ, zero, suc, ◌+◌, ◌*◌, ◌<◌, ◌≤◌, List, [], ◌∷◌, ◌++◌, length, take, Option, None, Some, Bool, true, false, cond, sym, ◌∙◌, ap, subst, refl, arith, add-zero, zero-add, add-one, append-nil, append_assoc, map, All, ⊎_elim, count_by}
use Rattle.std.specs.Prelude.{slice_get}
use Rattle.std.specs.Prelude.{is_some}
use Rattle.std.proofs.lemmas.Bool.{cases_eq}
use Rattle.std.proofs.lemmas.Option.{same_Some, slice_get_within}
use Rattle.std.proofs.lemmas.List.{length-map, map-append, take_all}
use Rattle.std.proofs.lemmas.List.Sums.{sum_by-cons}
use Rattle.cip_plugin.specs.Who.{Who}
use Rattle.cip_plugin.specs.declared.faults.WishFault.{WishFault}
use Rattle.cip_plugin.specs.declared.faults.WishFault.TheVariants as faults
use Rattle.cip_plugin.specs.declared.stages.Stage.TheVariants.{Gone}
use Rattle.cip_plugin.specs.Seats.{Seat, State, held_count, is_alive, is_live, live_count}
use Rattle.cip_plugin.specs.Steps.{Step, Runs}
use Rattle.cip_plugin.specs.Wishing.{ends, seat_fault}
use Rattle.cip_plugin.proofs.Running.{Runs-append}
use Rattle.cip_roster.specs.KeptRankings.{Room}
use Rattle.cip_roster.specs.Turns.{IsSound, StandsAt}
use Rattle.cip_roster.specs.Closed.{Back, all_end, back, backs, shelf_backs}
use Rattle.cip_roster.specs.Moved.{numbered, unnumbered}
use Rattle.cip_roster.specs.Shelves.{shown}
use Rattle.cip_roster.proofs.Calm.{all_at}
use Rattle.cip_roster.proofs.Sounding.{AreOf, run_elsewhere}
use Rattle.cip_roster.proofs.Wishes.{lives_there}

-- the last calls of some plugins and of one more
pub all_end_more : (id : ℕ) (xs : List Seat) (x : Seat)
    → all_end id (xs ++ x ∷ []) ≡ all_end id xs ++ cond (is_live x) (ends (id + length xs)) []
all_end_more id [] x =
    append-nil (cond (is_live x) (ends id) []) ∙ ap (λ (n : ℕ). cond (is_live x) (ends n) []) (sym (add-zero id))
all_end_more id (y ∷ xs) x =
    let place : (id + 1) + length xs ≡ id + suc (length xs) = omega arith in
    ap (λ (rest : List Step). cond (is_live y) (ends id) [] ++ rest) (all_end_more (id + 1) xs x)
    ∙ sym (append_assoc (cond (is_live y) (ends id) []) (all_end (id + 1) xs)
    (cond (is_live x) (ends ((id + 1) + length xs)) []))
    ∙ ap (λ (n : ℕ). (cond (is_live y) (ends id) [] ++ all_end (id + 1) xs) ++ cond (is_live x) (ends n) []) place

-- one place more of a list
pub take_next : {A : Type 0} (xs : List A) (i : ℕ) (x : A) → slice_get xs i ≡ Some x
    → take (suc i) xs ≡ take i xs ++ x ∷ []
take_next [] i x at = cc
take_next {A = A} (y ∷ xs) zero x at = ap (λ (z : A). z ∷ []) (same_Some y x at)
take_next {A = A} (y ∷ xs) (suc i) x at = ap (λ (rest : List A). y ∷ rest) (take_next xs i x at)

-- so many places
pub length_taken : {A : Type 0} (xs : List A) (i : ℕ) → i ≤ length xs → length (take i xs) ≡ i
length_taken [] zero fits = refl
length_taken [] (suc i) fits = absurd (omega arith)
length_taken (x ∷ xs) zero fits = refl
length_taken (x ∷ xs) (suc i) fits = ap suc (length_taken xs i (omega arith))

-- the plugins below a number were closed, and the others are as they were
pub record EndedSoFar (i : ℕ) (a b : State) (room : ℕ) : Type 0 where
  pub run : Runs a (all_end 0 (take i a.seats)) b
  pub rest : (k : ℕ) → i ≤ k → slice_get b.seats k ≡ slice_get a.seats k
  pub done : (k : ℕ) (s : Seat) → k < i → slice_get b.seats k ≡ Some s → is_live s ≡ false
  pub places : b.places ≡ a.places
  pub count : length b.seats ≡ length a.seats
  pub lasts : 2 * live_count b.seats ≤ room

-- none yet
pub ended_none : (a : State) (room : ℕ) → 2 * live_count a.seats ≤ room → EndedSoFar 0 a a room
ended_none a room fits = record {
  run = refl;
  rest = λ k above. refl;
  done = λ k s below at. absurd (omega arith);
  places = refl;
  count = refl;
  lasts = fits;
}

-- the last calls of one plugin more, by its seat
one_more : (a : State) (i : ℕ) (x : Seat) → slice_get a.seats i ≡ Some x
    → all_end 0 (take (suc i) a.seats) ≡ all_end 0 (take i a.seats) ++ cond (is_live x) (ends i) []
one_more a i x at =
    let within = slice_get_within a.seats i x at in
    let place : 0 + length (take i a.seats) ≡ i =
    zero-add (length (take i a.seats)) ∙ length_taken a.seats i (omega arith) in
    ap (all_end 0) (take_next a.seats i x at)
    ∙ all_end_more 0 (take i a.seats) x
    ∙ ap (λ (n : ℕ). all_end 0 (take i a.seats) ++ cond (is_live x) (ends n) []) place

-- what stands at a place of a list
some_within : {A : Type 0} (xs : List A) (i : ℕ) → i < length xs → (x : A) × (slice_get xs i ≡ Some x)
some_within [] i within = absurd (omega arith)
some_within (x ∷ xs) zero within = (x, refl)
some_within (x ∷ xs) (suc i) within = some_within xs i (omega arith)

-- the last calls of one plugin are of its seat
ends_of : (i : ℕ) (lives : Bool) → AreOf i (cond lives (ends i) [])
ends_of i true = (refl, (refl, tt))
ends_of i false = tt

-- one more was closed, if it was live
pub ended_one : (i : ℕ) (a b c : State) (room : ℕ) (later : Room) → EndedSoFar i a b room → i < length b.seats
    → Runs b (cond (lives_there (slice_get b.seats i)) (ends i) []) c → lives_there (slice_get c.seats i) ≡ false
    → IsSound c later → EndedSoFar (i + 1) a c later.lines
ended_one i a b c room later so_far within run gone sound =
    let own = some_within b.seats i within in
    let x = own.0 in
    let took : Runs b (cond (is_live x) (ends i) []) c =
    subst (λ (o : Option Seat). Runs b (cond (lives_there o) (ends i) []) c) own.1 run in
    let elsewhere = run_elsewhere i (cond (is_live x) (ends i) []) b c (ends_of i (is_live x)) took in
    subst (λ (n : ℕ). EndedSoFar n a c later.lines) (sym (add-one i)) (record {
      run = subst (λ (steps : List Step). Runs a steps c)
          (sym (one_more a i x (sym (so_far.rest i (omega arith)) ∙ own.1)))
          (Runs-append (all_end 0 (take i a.seats)) (cond (is_live x) (ends i) []) a b c so_far.run took);
      rest = λ k above. elsewhere.seats k (λ same. absurd (omega arith)) ∙ so_far.rest k (omega arith);
      done = λ k s below at.
          ⊎_elim
          (λ (same : k ≡ i).
          ap lives_there (sym at ∙ ap (slice_get c.seats) same) ∙ gone)
          (λ (other : k ≡ i → ⊥).
          so_far.done k s (omega (arith, other)) (sym (elsewhere.seats k other) ∙ at))
          (cases_eq k i);
      places = elsewhere.places ∙ so_far.places;
      count = elsewhere.count ∙ so_far.count;
      lasts = sound.lasts;
    })

-- all were closed
pub ended_all : (n : ℕ) (a b : State) (room : ℕ) → length a.seats ≤ n → EndedSoFar n a b room
    → Runs a (all_end 0 a.seats) b
ended_all n a b room fits so_far =
    subst (λ (seats : List Seat). Runs a (all_end 0 seats) b) (take_all n a.seats fits) so_far.run

-- so none is live
pub ended_gone : (n : ℕ) (a b : State) (room : ℕ) → length a.seats ≤ n → EndedSoFar n a b room
    → All (λ seat. is_live seat ≡ false) b.seats
ended_gone n a b room fits so_far =
    let count = so_far.count in
    all_at (λ seat. is_live seat ≡ false) b.seats (λ k s at.
    let within = slice_get_within b.seats k s at in so_far.done k s (omega arith) at)

-- who was closed isn't live
pub closed_there : (b : State) (id : ℕ) → StandsAt Gone b id → lives_there (slice_get b.seats id) ≡ false
closed_there b id stands = ap lives_there stands.at ∙ ap is_alive stands.stands

-- who was closed before, by what is wrong with it
gone_by : (lives : Bool) (fault : WishFault) → cond lives None (Some faults.Gone) ≡ Some fault → lives ≡ false
gone_by true fault is = cc
gone_by false fault is = refl

-- who isn't live, by what is wrong with its number
pub gone_there : (o : Option Seat) (fault : WishFault) → seat_fault o ≡ Some fault → lives_there o ≡ false
gone_there None fault is = refl
gone_there (Some seat) fault is = gone_by (is_live seat) fault is

-- what is left of slots is what went back of their seats
pub numbered_backs : {A B : Type 0} (left : Option ℕ → A → B) (seat : A → Seat) (mean : B → Back)
    → ((id : Option ℕ) (x : A) → mean (left id x) ≡ back id (seat x).who) → (id : ℕ) (xs : List A)
    → map mean (numbered left id xs) ≡ backs id (map seat xs)
numbered_backs left seat mean means id [] = refl
numbered_backs {A = A} left seat mean means id (x ∷ xs) =
    ap (λ (first : Back). first ∷ map mean (numbered left (id + 1) xs)) (means (Some id) x)
    ∙ ap (λ (rest : List Back). back (Some id) (seat x).who ∷ rest) (numbered_backs left seat mean means (id + 1) xs)

-- what is left of a shelf is what went back of it
pub unnumbered_backs : {A B : Type 0} (left : Option ℕ → A → B) (who : A → Who) (mean : B → Back)
    → ((id : Option ℕ) (x : A) → mean (left id x) ≡ back id (who x)) → (xs : List (Option A))
    → map mean (unnumbered left xs) ≡ shelf_backs (map (shown who) xs)
unnumbered_backs left who mean means [] = refl
unnumbered_backs left who mean means (None ∷ xs) = unnumbered_backs left who mean means xs
unnumbered_backs left who mean means (Some x ∷ xs) =
    ap (λ (first : Back). first ∷ map mean (unnumbered left xs)) (means None x)
    ∙ ap (λ (rest : List Back). back None (who x) ∷ rest) (unnumbered_backs left who mean means xs)

-- a place that is shown holds something where it does
shown_some : {A : Type 0} (who : A → Who) (o : Option A) → is_some (shown who o) ≡ is_some o
shown_some who None = refl
shown_some who (Some x) = refl

-- so many places hold something
pub held_places : {A : Type 0} (who : A → Who) (xs : List (Option A))
    → held_count (map (shown who) xs) ≡ count_by is_some xs
held_places who [] = refl
held_places {A = A} who (x ∷ xs) =
    sum_by-cons (λ (o : Option Who). cond (is_some o) 1 0) (shown who x) (map (shown who) xs)
    ∙ ap (λ (b : Bool). cond b 1 0 + held_count (map (shown who) xs)) (shown_some who x)
    ∙ ap (λ (n : ℕ). cond (is_some x) 1 0 + n) (held_places who xs)
    ∙ sym (sum_by-cons (λ (o : Option A). cond (is_some o) 1 0) x xs)

-- so many seats as are shown
pub many_seats : {A : Type 0} (f : A → Seat) (xs : List A) (n : ℕ) → length (map f xs) ≡ n → length xs ≡ n
many_seats f xs n is = sym (length-map xs f) ∙ is

-- so many plugins on a shelf as are shown
pub many_held : {A : Type 0} (who : A → Who) (xs : List (Option A)) (places : List (Option Who))
    → map (shown who) xs ≡ places → count_by is_some xs ≡ held_count places
many_held who xs places is = sym (held_places who xs) ∙ ap held_count is

-- all went back
pub went_back : {A B C : Type 0} (leaves : Option ℕ → A → C) (retires : Option ℕ → B → C) (seat : A → Seat)
    (who : B → Who) (mean : C → Back) (slots : List A) (shelf : List (Option B)) (places : List (Option Who))
    (had between has : List C)
    → ((id : Option ℕ) (x : A) → mean (leaves id x) ≡ back id (seat x).who)
    → ((id : Option ℕ) (x : B) → mean (retires id x) ≡ back id (who x)) → map (shown who) shelf ≡ places
    → between ≡ had ++ numbered leaves 0 slots → has ≡ between ++ unnumbered retires shelf
    → map mean has ≡ map mean had ++ (backs 0 (map seat slots) ++ shelf_backs places)
went_back leaves retires seat who mean slots shelf places had between has means retired same first second =
    ap (map mean) second
    ∙ map-append mean between (unnumbered retires shelf)
    ∙ ap (λ (front : List Back). front ++ map mean (unnumbered retires shelf))
    (ap (map mean) first ∙ map-append mean had (numbered leaves 0 slots)
    ∙ ap (λ (rest : List Back). map mean had ++ rest) (numbered_backs leaves seat mean means 0 slots))
    ∙ ap (λ (rest : List Back). (map mean had ++ backs 0 (map seat slots)) ++ rest)
    (unnumbered_backs retires who mean retired shelf ∙ ap shelf_backs same)
    ∙ append_assoc (map mean had) (backs 0 (map seat slots)) (shelf_backs places)
