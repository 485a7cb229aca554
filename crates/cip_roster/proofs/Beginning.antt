-- How a roster begins, one plugin after the other.
use Rattle.std.proofs.Common.{◌≡◌, ℕ, zero, suc, ◌+◌, ◌*◌, ◌<◌, ◌≤◌, List, [], ◌∷◌, ◌++◌, length, Option, Some, Bool, true, cond, sym, ◌∙◌, ap, subst, refl, arith, add-zero, append-nil, append_assoc, length-append, All, ⊎_elim, map, get_or, one-add, ◌^◌}
use Rattle.std.specs.List.{AllByRecursion}
use Rattle.std.proofs.lemmas.List.Elements.{All-from_recursion}
use Rattle.std.proofs.lemmas.List.{length-map, map-append}
use Rattle.std.proofs.lemmas.List.Sums.{count_by-le-length, sum_by-cons}
use Rattle.std.specs.Prelude.{slice_get, is_some}
use Rattle.std.proofs.lemmas.Bool.{cases_eq}
use Rattle.std.proofs.lemmas.Option.{same_Some, slice_get_within}
use Rattle.cip_events.specs.Names.{shown_name}
use Rattle.cip_events.specs.declared.traces.TraceLine.{TraceLine}
use Rattle.cip_plugin.specs.Who.{Who}
use Rattle.cip_plugin.specs.declared.stages.Stage.TheVariants.{Playing}
use Rattle.cip_plugin.specs.Lives.{LivesAreTold, life, newborn, words_of}
use Rattle.cip_plugin.specs.Seats.{Seat, Standing, State, is_live, held_count}
use Rattle.cip_plugin.specs.Steps.{Step, IsSeated, Runs}
use Rattle.cip_plugin.specs.Wishing.{begins}
use Rattle.cip_plugin.proofs.Running.{Runs-append, run_lives}
use Rattle.cip_roster.specs.Begun.{AreSeated, IsBegun, IsFresh, IsPlaying, all_begin}
use Rattle.cip_roster.specs.KeptRankings.{Room, no_rankings}
use Rattle.cip_roster.specs.Shelves.{shown}
use Rattle.cip_roster.specs.Turns.{IsSound, StandsAt}
use Rattle.cip_roster.proofs.Calm.{all_at}
use Rattle.cip_roster.proofs.Sounding.{begins_of, playing_settled, run_elsewhere}
use Rattle.cip_roster.proofs.StillRanked.{ranked_as_none}

-- the first calls of some plugins and of one more
all_begin_more : (id : ℕ) (xs : List (Bool × Bool)) (first second : Bool)
    → all_begin id (xs ++ (first, second) ∷ []) ≡ all_begin id xs ++ begins (id + length xs) first second
all_begin_more id [] first second =
    append-nil (begins id first second) ∙ ap (λ (n : ℕ). begins n first second) (sym (add-zero id))
all_begin_more id (y ∷ xs) first second =
    let place : (id + 1) + length xs ≡ id + suc (length xs) = omega arith in
    ap (λ (rest : List Step). begins id y.0 y.1 ++ rest) (all_begin_more (id + 1) xs first second)
    ∙ sym (append_assoc (begins id y.0 y.1) (all_begin (id + 1) xs) (begins ((id + 1) + length xs) first second))
    ∙ ap (λ (n : ℕ). (begins id y.0 y.1 ++ all_begin (id + 1) xs) ++ begins n first second) place

-- the plugins below a number had their first calls, and the others are as they were
pub record BegunSoFar (i : ℕ) (a b : State) : Type 0 where
  pub answered : List (Bool × Bool)
  pub many : length answered ≡ i
  pub run : Runs a (all_begin 0 answered) b
  pub rest : (k : ℕ) → i ≤ k → slice_get b.seats k ≡ slice_get a.seats k
  pub done : (k : ℕ) (s : Seat) → k < i → slice_get b.seats k ≡ Some s → IsPlaying s
  pub count : length b.seats ≡ length a.seats
  pub places : b.places ≡ a.places

-- one more
pub begun_more : (i : ℕ) (a b d : State) (first second : Bool) → BegunSoFar i a b
    → Runs b (begins i first second) d → StandsAt Playing d i → BegunSoFar (suc i) a d
begun_more i a b d first second so_far both stands =
    let elsewhere = run_elsewhere i (begins i first second) b d (begins_of i first second) both in
    let many = so_far.many in
    let place : 0 + length so_far.answered ≡ i = omega arith in
    record {
      answered = so_far.answered ++ (first, second) ∷ [];
      many = let sum = length-append so_far.answered ((first, second) ∷ []) in omega arith;
      run = subst (λ (steps : List Step). Runs a steps d)
          (sym (all_begin_more 0 so_far.answered first second
          ∙ ap (λ (n : ℕ). all_begin 0 so_far.answered ++ begins n first second) place))
          (Runs-append (all_begin 0 so_far.answered) (begins i first second) a b d so_far.run both);
      rest = λ k above. elsewhere.seats k (λ same. absurd (omega arith)) ∙ so_far.rest k (omega arith);
      done = λ k s below at.
          ⊎_elim
          (λ (same : k ≡ i).
          let own : s ≡ stands.seat = same_Some s stands.seat
          (sym at ∙ ap (slice_get d.seats) same ∙ stands.at) in
          subst IsPlaying (sym own) stands.stands)
          (λ (other : k ≡ i → ⊥).
          so_far.done k s (omega (arith, other)) (sym (elsewhere.seats k other) ∙ at))
          (cases_eq k i);
      count = elsewhere.count ∙ so_far.count;
      places = elsewhere.places ∙ so_far.places;
    }

-- all had their first calls
pub begun_all : (n : ℕ) (a b : State) → length a.seats ≤ n → BegunSoFar n a b → All IsPlaying b.seats
begun_all n a b fits so_far =
    let count = so_far.count in
    all_at IsPlaying b.seats (λ k s at.
    let within = slice_get_within b.seats k s at in
    so_far.done k s (omega arith) at)

-- one more comes to a seat
pub seated_more : (whos : List Who) (seats : List Seat) (who : Who) (seat : Seat) → AreSeated whos seats
    → IsSeated who seat → AreSeated (whos ++ who ∷ []) (seats ++ seat ∷ [])
seated_more [] [] who seat are one = (one, tt)
seated_more [] (s ∷ seats) who seat are one = absurd are
seated_more (w ∷ whos) [] who seat are one = absurd are
seated_more (w ∷ whos) (s ∷ seats) who seat are one = (are.0, seated_more whos seats who seat are.1 one)

-- as many seats as plugins
pub seated_length : (whos : List Who) (seats : List Seat) → AreSeated whos seats → length seats ≡ length whos
seated_length [] [] are = refl
seated_length [] (s ∷ seats) are = absurd are
seated_length (w ∷ whos) [] are = absurd are
seated_length (w ∷ whos) (s ∷ seats) are = ap suc (seated_length whos seats are.1)

-- who came is fresh
fresh_rec : (whos : List Who) (seats : List Seat) → AreSeated whos seats → AllByRecursion IsFresh seats
fresh_rec [] [] are = tt
fresh_rec [] (s ∷ seats) are = absurd are
fresh_rec (w ∷ whos) [] are = absurd are
fresh_rec (w ∷ whos) (s ∷ seats) are =
    (ap (λ (n : Standing). n.stage) are.0.standing, fresh_rec whos seats are.1)

-- all that came are fresh
pub seated_fresh : (whos : List Who) (seats : List Seat) → AreSeated whos seats → All IsFresh seats
seated_fresh whos seats are = All-from_recursion IsFresh seats (fresh_rec whos seats are)

-- each place of a shelf as it comes holds a plugin
pub held_shown : (whos : List Who) → held_count (map (λ who. Some who) whos) ≡ length whos
held_shown [] = refl
held_shown (w ∷ whos) =
    sum_by-cons (λ (o : Option Who). cond (is_some o) 1 0) (Some w) (map (λ who. Some who) whos)
    ∙ ap (λ (n : ℕ). 1 + n) (held_shown whos) ∙ one-add (length whos)

-- a roster that begins is sound
pub begun_sound : (state : State) (room : Room) → All IsPlaying state.seats
    → length state.seats + held_count state.places < 2 ^ 32 → 2 * length state.seats ≤ room.lines
    → room.rankings ≡ no_rankings → IsSound state room
begun_sound state room playing numbers fits none =
    let most = count_by-le-length is_live state.seats in
    record {
      settled = λ i d within. playing_settled (get_or state.seats i d) (playing i d within);
      numbers = numbers;
      lasts = omega arith;
      ranked = ranked_as_none state.seats room.rankings none;
    }

-- some plugins came to their seats so far, and others are to come
pub record SeatedSoFar (left all : List Who) (a b : State) : Type 0 where
  pub whos : List Who
  pub are : AreSeated whos b.seats
  pub names : b.names ≡ map (λ who. shown_name who.label) whos
  pub order : whos ++ left ≡ all
  pub places : b.places ≡ a.places
  pub lines : b.lines ≡ a.lines
  pub kept : b.kept ≡ a.kept

-- nobody is seated where there are no seats
seated_none : (seats : List Seat) → seats ≡ [] → AreSeated [] seats
seated_none seats none = subst (λ (s : List Seat). AreSeated [] s) (sym none) tt

-- none came yet
pub seating_none : (all : List Who) (a : State) → a.seats ≡ [] → a.names ≡ [] → SeatedSoFar all all a a
seating_none all a seats names = record {
  whos = [];
  are = seated_none a.seats seats;
  names = names;
  order = refl;
  places = refl;
  lines = refl;
  kept = refl;
}

-- one more
pub seating_more : {P : Type 0} (who : P → Who) (ds es : List P) (x : P) (all : List Who) (a b c : State)
    → SeatedSoFar (map who ds) all a b → ds ≡ x ∷ es
    → (fresh : Seat) × IsSeated (who x) fresh × (c.seats ≡ b.seats ++ fresh ∷ [])
    → c.names ≡ b.names ++ shown_name (who x).label ∷ [] → c.places ≡ b.places → c.lines ≡ b.lines → c.kept ≡ b.kept
    → SeatedSoFar (map who es) all a c
seating_more who ds es x all a b c so_far split seated names places lines kept = record {
  whos = so_far.whos ++ who x ∷ [];
  are = subst (λ (s : List Seat). AreSeated (so_far.whos ++ who x ∷ []) s) (sym seated.2)
      (seated_more so_far.whos b.seats (who x) seated.0 so_far.are seated.1);
  names = names
      ∙ ap (λ (front : List (List ℕ)). front ++ shown_name (who x).label ∷ []) so_far.names
      ∙ sym (map-append (λ (w : Who). shown_name w.label) so_far.whos (who x ∷ []));
  order = append_assoc so_far.whos (who x ∷ []) (map who es)
      ∙ ap (λ (rest : List Who). so_far.whos ++ rest) (sym (ap (map who) split))
      ∙ so_far.order;
  places = places ∙ so_far.places;
  lines = lines ∙ so_far.lines;
  kept = kept ∙ so_far.kept;
}

-- all came
pub seating_all : (left all : List Who) (a b : State) → left ≡ [] → SeatedSoFar left all a b → SeatedSoFar [] all a b
seating_all left all a b none so_far = subst (λ (w : List Who). SeatedSoFar w all a b) none so_far

-- who they are
pub seating_whos : (all : List Who) (a b : State) (so_far : SeatedSoFar [] all a b) → so_far.whos ≡ all
seating_whos all a b so_far = sym (append-nil so_far.whos) ∙ so_far.order

-- the seats of all
pub seating_seats : (left all : List Who) (a b : State) → left ≡ [] → SeatedSoFar left all a b → AreSeated all b.seats
seating_seats left all a b none so_far =
    let done = seating_all left all a b none so_far in
    subst (λ (w : List Who). AreSeated w b.seats) (seating_whos all a b done) done.are

-- the names of all
pub seating_names : (left all : List Who) (a b : State) → left ≡ [] → SeatedSoFar left all a b
    → b.names ≡ map (λ who. shown_name who.label) all
seating_names left all a b none so_far =
    let done = seating_all left all a b none so_far in
    done.names ∙ ap (map (λ (w : Who). shown_name w.label)) (seating_whos all a b done)

-- a shelf as it comes
pub shelf_shown : {P : Type 0} (who : P → Who) (ps : List P)
    → map (shown who) (map (λ p. Some p) ps) ≡ map (λ w. Some w) (map who ps)
shelf_shown who [] = refl
shelf_shown who (p ∷ ps) = ap (λ (rest : List (Option Who)). Some (who p) ∷ rest) (shelf_shown who ps)

-- what stands on a shelf that was empty
pub shelf_places : {P : Type 0} (who : P → Who) (ps : List P) (before after : List (Option P)) → before ≡ []
    → after ≡ before ++ map (λ p. Some p) ps → map (shown who) after ≡ map (λ w. Some w) (map who ps)
shelf_places {P = P} who ps before after none is =
    ap (map (shown who)) (is ∙ ap (λ (front : List (Option P)). front ++ map (λ p. Some p) ps) none)
    ∙ shelf_shown who ps

-- and how much
pub shelf_held : {P : Type 0} (who : P → Who) (ps : List P) (places : List (Option Who))
    → places ≡ map (λ w. Some w) (map who ps) → held_count places ≡ length ps
shelf_held who ps places is = ap held_count is ∙ held_shown (map who ps) ∙ length-map ps who

-- a roster has begun
pub begun_with_all : (start shelf : List Who) (keeps : Bool) (a b c : State) → AreSeated start b.seats
    → b.names ≡ map (λ who. shown_name who.label) start → b.places ≡ a.places → b.lines ≡ a.lines → b.kept ≡ a.kept
    → a.lines ≡ [] → a.kept ≡ keeps → (answered : List (Bool × Bool)) × Runs b (all_begin 0 answered) c
    → a.places ≡ map (λ who. Some who) shelf → IsBegun start shelf keeps c
begun_with_all start shelf keeps a b c seats names places lines kept none keeps_is run shelved = record {
  fresh = b;
  seats = seats;
  places = places ∙ shelved;
  names = names;
  lines = lines ∙ none;
  kept = kept ∙ keeps_is;
  answered = run.0;
  run = run.1;
}

-- lines are kept or not, as is said
pub begun_kept : (start shelf : List Who) (keeps says : Bool) (state : State) → keeps ≡ says
    → IsBegun start shelf keeps state → IsBegun start shelf says state
begun_kept start shelf keeps says state is begun = subst (λ (b : Bool). IsBegun start shelf b state) is begun

-- as many seats as plugins came
pub seated_count : {P : Type 0} (who : P → Who) (ps : List P) (seats later : List Seat) → AreSeated (map who ps) seats
    → length later ≡ length seats → length later ≡ length ps
seated_count who ps seats later are same = same ∙ seated_length (map who ps) seats are ∙ length-map ps who

-- who comes to a seat is newborn
seated_newborn : (whos : List Who) (seats : List Seat) (id : ℕ) (s : Seat) → AreSeated whos seats
    → slice_get seats id ≡ Some s → s.standing ≡ newborn
seated_newborn [] [] id s are at = cc
seated_newborn [] (x ∷ seats) id s are at = absurd are
seated_newborn (w ∷ whos) [] id s are at = absurd are
seated_newborn (w ∷ whos) (x ∷ seats) zero s are at =
    ap (λ (t : Seat). t.standing) (sym (same_Some x s at)) ∙ are.0.standing
seated_newborn (w ∷ whos) (x ∷ seats) (suc id) s are at = seated_newborn whos seats id s are.1 at

-- lives are told before the first line
fresh_lives : (whos : List Who) (a : State) → AreSeated whos a.seats → a.lines ≡ [] → LivesAreTold a
fresh_lives whos a are none = record {
  each = λ id s at.
      ap (λ (lines : List TraceLine). life s.who.kind (Some newborn) (words_of id lines)) none
      ∙ ap (λ (n : Standing). Some n) (sym (seated_newborn whos a.seats id s are at));
  others = λ id past. ap (words_of id) none;
}

-- and behind the first calls
pub begun_lives : (start shelf : List Who) (state : State) → IsBegun start shelf true state → LivesAreTold state
begun_lives start shelf state begun =
    run_lives (all_begin 0 begun.answered) begun.fresh state begun.run begun.kept
    (fresh_lives start begun.fresh begun.seats begun.lines)

-- what is at most something, under another name
pub same_most : (few other most : ℕ) → few ≡ other → few ≤ most → other ≤ most
same_most few other most same fits = omega (arith, same, fits)

-- six times as much
pub same_room : (few other most : ℕ) → few ≡ other → 6 * few ≤ most → 6 * other ≤ most
same_room few other most same fits = omega (arith, same, fits)
