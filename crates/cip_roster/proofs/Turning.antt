-- Turns of plugins, put together from single calls and notes.
use Rattle.std.proofs.Common.{◌≡◌, ℕ, ◌+◌, ◌*◌, ◌≤◌, List, [], ◌∷◌, ◌++◌, length, map, take, drop, Option, None, Some, Bool, true, false, cond, sym, ◌∙◌, ap, subst, refl, arith, ◌<◌, All, add-one, get_or, append_assoc, append-nil, length-append}
use Rattle.std.proofs.lemmas.List.{drop_all, drop-append-le, map-append, take_all, take-append-le}
use Rattle.cip_events.specs.declared.words.Word.TheVariants as say
use Rattle.cip_plugin.specs.Calls.{Ask, Answer, NoAnswer, Asked, Init, InitSolve, ExitSolve, Exit}
use Rattle.cip_plugin.specs.Asking.{answer_of, first_part, count_past}
use Rattle.cip_plugin.specs.declared.asking.Given.{Given}
use Rattle.cip_plugin.specs.declared.asking.Given.TheVariants as given
use Rattle.std.specs.Prelude.{slice_get, IsSome}
use Rattle.cip_plugin.specs.declared.kinds.Kind.{Kind}
use Rattle.cip_plugin.specs.declared.keys.Key.{Key}
use Rattle.cip_plugin.specs.declared.stages.Stage.{Stage}
use Rattle.cip_plugin.specs.Seats.{Seat, State, live_count}
use Rattle.cip_plugin.specs.Steps.{Step, Calls, Notes, Runs, is_note, line}
use Rattle.cip_plugin.specs.Wishing.{begins, begun_with, ends}
use Rattle.cip_plugin.specs.Calling.{Called, all_turns, dropped, given_of, ids_of, is_answer, noted, turn_of}
use Rattle.cip_plugin.proofs.Running.{Runs-append, run_stays}
use Rattle.cip_roster.specs.Turns.{CalledKind, CanBeAsked, HadTurn, HandsOn, IsSound, StandsAt, entries, handed}
use Rattle.cip_roster.specs.KeptRankings.{AreRanked, IsRanking, Room}
use Rattle.cip_roster.proofs.Calm.{asked_still, run_calm, turn_calm, turns_calm}
use Rattle.cip_roster.proofs.Keeping.{noted_some, some_at}
use Rattle.cip_roster.proofs.StillRanked.{ranking_alike, sound_alike}
use Rattle.cip_events.specs.declared.words.Word.{Word}
use Rattle.std.proofs.lemmas.Option.{slice_get-get_or}
use Rattle.cip_roster.proofs.Ending.{take_next}

-- what was given is an answer
is_given : (g : Given) → is_answer (answer_of g) ≡ true
is_given (given.Cuts v) = refl
is_given (given.Reductions v) = refl
is_given (given.Priced brought) = refl
is_given (given.Guesses v) = refl
is_given (given.Split split) = refl
is_given (given.Enforced said) = refl
is_given (given.Wishes v) = refl

-- of what was given what was dropped is noted
noted_given : (id : ℕ) (g : Given) → noted id (answer_of g) ≡ dropped id (count_past (answer_of g))
noted_given id (given.Cuts v) = refl
noted_given id (given.Reductions v) = refl
noted_given id (given.Priced brought) = refl
noted_given id (given.Guesses v) = refl
noted_given id (given.Split split) = refl
noted_given id (given.Enforced said) = refl
noted_given id (given.Wishes v) = refl

-- the two first calls, each with its note where it wanted memory
pub begun : (a b c d e : State) (id : ℕ) (first second : Bool) → Runs a (Calls id (Init first) ∷ []) b
    → Runs b (cond first [] (Notes id say.NoMemory ∷ [])) c → Runs c (Calls id (InitSolve second) ∷ []) d
    → Runs d (cond second [] (Notes id say.NoMemory ∷ [])) e → Runs a (begins id first second) e
begun a b c d e id first second set_up lacked heard wanted =
    Runs-append (begun_with id (Init first) first) (begun_with id (InitSolve second) second) a c e
    (Runs-append (Calls id (Init first) ∷ []) (cond first [] (Notes id say.NoMemory ∷ [])) a b c set_up lacked)
    (Runs-append (Calls id (InitSolve second) ∷ []) (cond second [] (Notes id say.NoMemory ∷ [])) c d e heard wanted)

-- the two last calls
pub ended : (a b c : State) (id : ℕ) → Runs a (Calls id ExitSolve ∷ []) b → Runs b (Calls id Exit ∷ []) c
    → Runs a (ends id) c
ended a b c id first second = Runs-append (Calls id ExitSolve ∷ []) (Calls id Exit ∷ []) a b c first second

-- a turn with an answer, which was cut short
pub turn_given : (a b c : State) (id past : ℕ) (ask : Ask) (g short : Given) → past ≡ count_past (answer_of g)
    → answer_of short ≡ first_part (answer_of g) → Runs a (Calls id (Asked ask (answer_of g)) ∷ []) b
    → Runs b (dropped id past) c → HadTurn id ask a c (Some short)
turn_given a b c id past ask g short counts cut first second = record {
  answer = answer_of g;
  run = subst (λ (steps : List Step). Runs a (Calls id (Asked ask (answer_of g)) ∷ steps) c)
      (ap (dropped id) counts ∙ sym (noted_given id g))
      (Runs-append (Calls id (Asked ask (answer_of g)) ∷ []) (dropped id past) a b c first second);
  hands_on = (is_given g, cut);
}

-- a turn that wanted memory
pub turn_none : (a b c : State) (id : ℕ) (ask : Ask) → Runs a (Calls id (Asked ask NoAnswer) ∷ []) b
    → Runs b (Notes id say.NoMemory ∷ []) c → HadTurn id ask a c None
turn_none a b c id ask first second = record {
  answer = NoAnswer;
  run = Runs-append (Calls id (Asked ask NoAnswer) ∷ []) (Notes id say.NoMemory ∷ []) a b c first second;
  hands_on = refl;
}

-- turns and others behind them
pub all_turns-append : (ask : Ask) (xs ys : List (ℕ × Answer))
    → all_turns ask (xs ++ ys) ≡ all_turns ask xs ++ all_turns ask ys
all_turns-append ask [] ys = refl
all_turns-append ask (x ∷ xs) ys =
    ap (λ (rest : List Step). turn_of x.0 ask x.1 ++ rest) (all_turns-append ask xs ys)
    ∙ sym (append_assoc (turn_of x.0 ask x.1) (all_turns ask xs) (all_turns ask ys))

-- what was given, and what is given behind it
pub given_of-append : (xs ys : List (ℕ × Answer)) → given_of (xs ++ ys) ≡ given_of xs ++ given_of ys
given_of-append [] ys = refl
given_of-append (x ∷ xs) ys =
    elim (is_answer x.1) as (λ b. cond b ((x.0, first_part x.1) ∷ given_of (xs ++ ys)) (given_of (xs ++ ys))
    ≡ cond b ((x.0, first_part x.1) ∷ given_of xs) (given_of xs) ++ given_of ys) [
      | true ↦ ap (λ (rest : List (ℕ × Answer)). (x.0, first_part x.1) ∷ rest) (given_of-append xs ys)
      | false ↦ given_of-append xs ys
    ]

-- what one turn hands on, as it is told
abbrev pub hands : ℕ → Option Given → List (ℕ × Answer)
hands id None = []
hands id (Some g) = (id, answer_of g) ∷ []

-- what one turn hands on is what is given of its answer
hands_given : (id : ℕ) (answer : Answer) (gave : Option Given) → HandsOn answer gave
    → hands id gave ≡ given_of ((id, answer) ∷ [])
hands_given id given None on = rw on refl
hands_given id given (Some g) on =
    rw (on.0, on.1) refl

-- one more turn
pub Called_more : (order : List ℕ) (ask : Ask) (a b c : State) (gave : List (ℕ × Answer)) (id : ℕ)
    (brought : Option Given) → Called order ask a b gave → HadTurn id ask b c brought
    → Called (order ++ id ∷ []) ask a c (gave ++ hands id brought)
Called_more order ask a b c gave id brought called had =
    let one : Runs b (all_turns ask ((id, had.answer) ∷ [])) c =
    subst (λ (steps : List Step). Runs b steps c) (sym (append-nil (turn_of id ask had.answer))) had.run in
    record {
      heard = called.heard ++ (id, had.answer) ∷ [];
      run = subst (λ (steps : List Step). Runs a steps c) (sym (all_turns-append ask called.heard ((id, had.answer) ∷
          [])))
          (Runs-append (all_turns ask called.heard) (all_turns ask ((id, had.answer) ∷ [])) a b c called.run one);
      ids = map-append (λ (h : ℕ × Answer). h.0) called.heard ((id, had.answer) ∷ [])
          ∙ ap (λ (front : List ℕ). front ++ id ∷ []) called.ids;
      given = ap (λ (front : List (ℕ × Answer)). front ++ hands id brought) called.given
          ∙ ap (λ (rest : List (ℕ × Answer)). given_of called.heard ++ rest) (hands_given id had.answer brought
          had.hands_on)
          ∙ sym (given_of-append called.heard ((id, had.answer) ∷ []));
    }

-- no turn yet
pub Called_none : (ask : Ask) (a : State) → Called [] ask a a []
Called_none ask a = record { heard = []; run = refl; ids = refl; given = refl }

-- one more behind what was put behind a list
pub handed_more : (had has : List (ℕ × Given)) (id : ℕ) (g : Given) → length had ≤ length has
    → handed had (has ++ (id, g) ∷ []) ≡ handed had has ++ (id, answer_of g) ∷ []
handed_more had has id g fits =
    ap (map (λ (entry : ℕ × Given). (entry.0, answer_of entry.1))) (drop-append-le (length had) has ((id, g) ∷ []) fits)
    ∙ map-append (λ (entry : ℕ × Given). (entry.0, answer_of entry.1)) (drop (length had) has) ((id, g) ∷ [])

-- what is put behind a list, as it is told
handed_entries : (had has : List (ℕ × Given)) (id : ℕ) (brought : Option Given) → length had ≤ length has
    → handed had (has ++ entries id brought) ≡ handed had has ++ hands id brought
handed_entries had has id None fits =
    ap (handed had) (append-nil has) ∙ sym (append-nil (handed had has))
handed_entries had has id (Some g) fits = handed_more had has id g fits

-- some plugins were asked so far, and what they gave stands behind what was there
pub record SoFar (ask : Ask) (ids : List ℕ) (a b : State) (had has : List (ℕ × Given)) : Type 0 where
  pub called : Called ids ask a b (handed had has)
  pub kept : take (length had) has ≡ had
  pub longer : length had ≤ length has

-- nobody yet
pub so_far_none : (ask : Ask) (a : State) (had : List (ℕ × Given)) → SoFar ask [] a a had had
so_far_none ask a had = record {
  called = subst (λ (gave : List (ℕ × Answer)). Called [] ask a a gave)
      (ap (map (λ (entry : ℕ × Given). (entry.0, answer_of entry.1))) (sym (drop_all (length had) had (omega arith))))
      (Called_none ask a);
  kept = take_all (length had) had (omega arith);
  longer = omega arith;
}

-- one more
pub so_far_more : (ask : Ask) (ids : List ℕ) (a b c : State) (had has later : List (ℕ × Given)) (id : ℕ)
    (brought : Option Given) → SoFar ask ids a b had has → HadTurn id ask b c brought
    → later ≡ has ++ entries id brought
    → SoFar ask (ids ++ id ∷ []) a c had later
so_far_more ask ids a b c had has later id brought so_far turn is = rw is (record {
  called = subst (λ (gave : List (ℕ × Answer)). Called (ids ++ id ∷ []) ask a c gave)
      (sym (handed_entries had has id brought so_far.longer))
      (Called_more ids ask a b c (handed had has) id brought so_far.called turn);
  kept = take-append-le (length had) has (entries id brought) so_far.longer ∙ so_far.kept;
  longer =
      let longer = so_far.longer in
      let sum = length-append has (entries id brought) in
      omega arith;
})

-- a plugin stands as it did, as the seats are the same
pub stands_same : (stage : Stage) (a b : State) (id : ℕ) → b.seats ≡ a.seats → StandsAt stage a id → StandsAt stage b id
stands_same stage a b id same stands = record {
  seat = stands.seat;
  at = ap (λ (seats : List Seat). slice_get seats id) same ∙ stands.at;
  stands = stands.stands;
}

-- what stands there is there
pub there : {A : Type 0} (o : Option A) (x : A) → o ≡ Some x → IsSome o
there o x is = subst IsSome (sym is) refl

-- who stands at a stage has a seat
pub stands_some : (stage : Stage) (a : State) (id : ℕ) → StandsAt stage a id → IsSome (slice_get a.seats id)
stands_some stage a id stands = there (slice_get a.seats id) stands.seat stands.at

-- who may be asked has a seat behind any run
pub asked_there : (a b : State) (ask : Ask) (id : ℕ) (steps : List Step) → CanBeAsked a ask id → Runs a steps b
    → IsSome (slice_get b.seats id)
asked_there a b ask id steps can run =
    let stays = run_stays steps a b id can.seat run can.at in
    there (slice_get b.seats id) stays.0 stays.1

-- who has a seat has one behind any run
pub seat_stays : (a b : State) (id : ℕ) (steps : List Step) → Runs a steps b → IsSome (slice_get a.seats id)
    → IsSome (slice_get b.seats id)
seat_stays a b id steps run is =
    let at = some_at (slice_get a.seats id) is in
    let stays = run_stays steps a b id at.0 run at.1 in
    there (slice_get b.seats id) stays.0 stays.1

-- plugins were asked, and what is sound is so behind it
pub called_sound : (order : List ℕ) (ask : Ask) (a r b : State) (gave : List (ℕ × Answer)) (room most later : Room)
    (n : ℕ) → r ≡ a → IsSound a room → Called order ask r b gave → 2 * n + 2 * live_count a.seats ≤ most.lines
    → most.lines ≤ later.lines + 2 * n → later.rankings ≡ room.rankings → IsSound b later
called_sound order ask a r b gave room most later n same sound called enough left kept =
    let own : IsSound r room = rw same sound in
    let count : 2 * live_count r.seats ≤ later.lines = rw same (omega arith) in
    sound_alike r b room later (run_calm (all_turns ask called.heard) r b (turns_calm ask called.heard) called.run) own
    count kept

-- and a ranking stays right
pub called_ranked : (kind : Kind) (order : List ℕ) (ask : Ask) (a r b : State) (gave : List (ℕ × Answer))
    (keys : List Key) → r ≡ a → Called order ask r b gave → IsRanking kind a.seats keys → IsRanking kind b.seats keys
called_ranked kind order ask a r b gave keys same called ranking =
    ranking_alike kind r b keys
    (run_calm (all_turns ask called.heard) r b (turns_calm ask called.heard) called.run)
    (subst (λ (s : State). IsRanking kind s.seats keys) (sym same) ranking)

-- a sound state with more room
pub sound_more : (a b : State) (room later : Room) → b ≡ a → room.lines ≤ later.lines
    → later.rankings ≡ room.rankings → IsSound a room → IsSound b later
sound_more a b room later same more kept sound =
    let lasts = sound.lasts in
    rw same (record {
      settled = sound.settled;
      numbers = sound.numbers;
      lasts = omega arith;
      ranked = subst (AreRanked a.seats) (sym kept) sound.ranked;
    })

-- all of a kind were called
pub called_kind : (kind : Kind) (ask : Ask) (a r b c : State) (keys lent : List Key)
    (had mid has : List (ℕ × Given)) → r ≡ a → c ≡ b → mid ≡ had → lent ≡ keys → IsRanking kind a.seats keys
    → take (length mid) has ≡ mid → Called (ids_of lent) ask r b (handed mid has) → CalledKind kind ask a c had has
called_kind kind ask a r b c keys lent had mid has same later mine all ranking kept called = record {
  keys = keys;
  permutation = ranking.permutation;
  sorted = ranking.sorted;
  kept = rw (← mine) kept;
  called = rw (← same, later, ← mine, ← all) called;
}

-- one turn, and what is sound is so behind it
pub turned_sound : (id : ℕ) (ask : Ask) (a r b : State) (given : Option Given) (room most later : Room) → r ≡ a
    → IsSound a room → HadTurn id ask r b given → 2 + 2 * live_count a.seats ≤ most.lines
    → most.lines ≤ later.lines + 2 → later.rankings ≡ room.rankings → IsSound b later
turned_sound id ask a r b given room most later same sound had enough left kept =
    let own : IsSound r room = rw same sound in
    let count : 2 * live_count r.seats ≤ later.lines = rw same (omega arith) in
    sound_alike r b room later (run_calm (turn_of id ask had.answer) r b (turn_calm id ask had.answer) had.run) own
    count kept

-- a note behind a change of room alone
pub noted_behind : (a r b : State) (id : ℕ) (word : Word) → is_note word ≡ true → IsSome (slice_get a.seats id)
    → r ≡ a → b.seats ≡ r.seats → b.places ≡ r.places → b.names ≡ r.names → b.kept ≡ r.kept
    → b.lines ≡ cond r.kept (r.lines ++ line id word ∷ []) r.lines → Runs a (Notes id word ∷ []) b
noted_behind a r b id word note is same seats places names kept lines =
    subst (λ (s : State). Runs s (Notes id word ∷ []) b) same
    (noted_some r b id word note (subst (λ (s : State). IsSome (slice_get s.seats id)) (sym same) is) seats places names
    kept lines)

-- who has a seat has one behind a turn
pub turned_there : (k id : ℕ) (ask : Ask) (a r c : State) (given : Option Given) → r ≡ a → HadTurn id ask r c given
    → IsSome (slice_get a.seats k) → IsSome (slice_get c.seats k)
turned_there k id ask a r c given same had is =
    seat_stays r c k (turn_of id ask had.answer) had.run
    (subst (λ (s : State). IsSome (slice_get s.seats k)) (sym same) is)

-- one more of a list
pub take_more : {A : Type 0} (xs : List A) (i : ℕ) (d : A) → i < length xs
    → take (i + 1) xs ≡ take i xs ++ get_or xs i d ∷ []
take_more xs i d within =
    ap (λ (n : ℕ). take n xs) (add-one i) ∙ take_next xs i (get_or xs i d) (slice_get-get_or xs i d within)

-- one number more of some keys
pub ids_next : (keys : List Key) (i : ℕ) (d : Key) → i < length keys
    → ids_of (take (i + 1) keys) ≡ ids_of (take i keys) ++ (get_or keys i d).id ∷ []
ids_next keys i d within =
    ap ids_of (take_more keys i d within)
    ∙ map-append (λ (k : Key). k.id) (take i keys) (get_or keys i d ∷ [])

-- who may be asked may be so behind a turn
pub all_still : (keys : List Key) (id : ℕ) (ask : Ask) (b c : State) (given : Option Given) → HadTurn id ask b c given
    → All (λ k. CanBeAsked b ask k.id) keys → All (λ k. CanBeAsked c ask k.id) keys
all_still keys id ask b c given had all =
    λ i d within. asked_still b c ask (get_or keys i d).id
    (run_calm (turn_of id ask had.answer) b c (turn_calm id ask had.answer) had.run) (all i d within)

-- or where room alone was made
pub all_behind : (keys : List Key) (ask : Ask) (a r : State) → r ≡ a → All (λ k. CanBeAsked a ask k.id) keys
    → All (λ k. CanBeAsked r ask k.id) keys
all_behind keys ask a r same all = rw same all
