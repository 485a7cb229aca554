-- One event, told to the plugins of some keys, one after the other.
use Rattle.std.proofs.Common.{◌≡◌, ℕ, ◌+◌, List, [], ◌∷◌, ◌++◌, replicate, Option, None, Some, Bool, true, false, eqb, cond, sym, ◌∙◌, ap, subst, refl, append-nil, append_assoc, add-zero, All, inl, inr, ⊎_elim}
use Rattle.std.specs.Prelude.{slice_get, ◌&&◌, IsSome, MatchOption, Result, Ok, Err, OnOk, OnErr}
use Rattle.std.specs.List.Sorted.{IsPermutation, IsSorted}
use Rattle.std.proofs.lemmas.Bool.{cases_eq, eq-eqb, ne_eqb}
use Rattle.std.proofs.lemmas.Grind.{replicate_next}
use Rattle.std.proofs.lemmas.Option.{same_Some}
use Rattle.cip_events.specs.declared.events.Event.{Event}
use Rattle.cip_events.specs.Events.{wants}
use Rattle.cip_plugin.specs.Calls.{Ask, Answer, Cuts, Reductions, Prices, Guesses, Splits, Says, Wishes, NoAnswer, OnEvent}
use Rattle.cip_plugin.specs.Asking.{answer_of, count_past, first_part}
use Rattle.cip_events.specs.declared.words.Word.TheVariants as say
use Rattle.cip_plugin.specs.declared.asking.Given.{Given}
use Rattle.cip_plugin.specs.declared.kinds.Kind.TheVariants as kinds
use Rattle.cip_plugin.specs.declared.keys.Key.{Key}
use Rattle.cip_plugin.specs.Seats.{Seat, State, is_on, is_settled}
use Rattle.cip_plugin.specs.Steps.{Step, Notes, Runs, calls_of, asks_in}
use Rattle.cip_plugin.specs.Calling.{dropped, ids_of, is_ready, keys_from, same_kind, turn_of}
use Rattle.cip_plugin.specs.Wishing.{IsOnThroughout, hears, is_to_hear, raised_in}
use Rattle.cip_plugin.proofs.Counting.{count_pushed, raised_in-append}
use Rattle.cip_plugin.proofs.Hearing.{times, times_of_keys, turn_asks}
use Rattle.cip_plugin.proofs.Onward.{Later}
use Rattle.cip_plugin.proofs.Running.{Runs-append, run_follows}
use Rattle.cip_roster.specs.Turns.{HadTurn, HandsOn}
use Rattle.cip_plugin.specs.Delivering.{ComesTo, InTurn, IsTried, hears_there, wishes_in}
use Rattle.cip_plugin.specs.Ranks.{rank_order}
use Rattle.cip_plugin.specs.declared.proposals.Wish.{Wish}
use Rattle.cip_roster.specs.Wished.{TookQuietly, WasTold, WasToldOne}
use Rattle.cip_roster.proofs.Granting.{steps_ask}
use Rattle.cip_roster.proofs.Trying.{in_turn_append, in_turn_one}
use Rattle.cip_roster.proofs.Keeping.{at_place, some_at}
use Rattle.cip_roster.proofs.Throughout.{hears_later, on_between, on_lives}

-- an event was told so far: each plugin that wants it and is on throughout was told it as often as its number stands
-- among these
pub record ToldTo (node : ℕ) (event : Event) (done : List ℕ) (a b : State) (q r : List Event) : Type 0 where
  pub steps : List Step
  pub run : Runs a steps b
  pub comes : InTurn (ComesTo event) done a steps b
  pub each : (id : ℕ) (seat later : Seat) → slice_get a.seats id ≡ Some seat → slice_get b.seats id ≡ Some later
      → IsOnThroughout seat later
      → asks_in (calls_of id steps) ≡ cond (hears event seat) (replicate (times id done) (OnEvent event)) []
  pub raised : r ≡ q ++ raised_in node steps

-- nothing either way
none_either : (b : Bool) → [] ≡ cond {A = List Ask} b [] []
none_either true = refl
none_either false = refl

-- to nobody yet
pub told_to_none : (node : ℕ) (event : Event) (a : State) (q : List Event) → ToldTo node event [] a a q q
told_to_none node event a q = record {
  steps = [];
  run = refl;
  comes = (refl, refl);
  each = λ id seat later at now on. none_either (hears event seat);
  raised = sym (append-nil q);
}

-- who is on and wants an event hears it once
heard_once : (on kind wants : Bool) (ask : Ask) → on ≡ true
    → cond (kind && wants) (replicate (cond (on && kind) 1 0) ask) [] ≡ cond (kind && wants) (ask ∷ []) []
heard_once true true true ask is = refl
heard_once true true false ask is = refl
heard_once true false wants ask is = refl
heard_once false kind wants ask is = cc

-- to all that want it
pub told_to_all : (node : ℕ) (event : Event) (keys : List Key) (a b : State) (q r : List Event)
    → IsPermutation (keys_from (is_ready kinds.EventHandler) 0 a.seats) keys → IsSorted rank_order keys
    → ToldTo node event (ids_of keys) a b q r → WasTold node event a b q r
told_to_all node event keys a b q r permuted sorted told = record {
  steps = told.steps;
  run = told.run;
  comes = record { keys = keys; permutation = permuted; sorted = sorted; comes = told.comes };
  each = λ id seat later at now on. told.each id seat later at now on
      ∙ ap (λ (n : ℕ). cond (hears event seat) (replicate n (OnEvent event)) [])
      (times_of_keys (is_ready kinds.EventHandler) a.seats keys id seat permuted at)
      ∙ heard_once (is_on seat) (same_kind kinds.EventHandler seat.who.kind) (wants seat.interest event.kind)
      (OnEvent event) on.on_before;
  raised = told.raised;
}

-- a number more among some
times_more : (id k : ℕ) (done : List ℕ) → times id (done ++ k ∷ []) ≡ times id done + cond (eqb k id) 1 0
times_more id k done = count_pushed (λ i. eqb i id) done k

-- one of the same at the end, or none
asks_more : (b : Bool) (ask : Ask) (n : ℕ) → replicate n ask ++ cond b (ask ∷ []) [] ≡ replicate (n + cond b 1 0) ask
asks_more true ask n = sym (replicate_next n ask)
asks_more false ask n =
    append-nil (replicate n ask) ∙ ap (λ (m : ℕ). replicate m ask) (sym (add-zero n))

-- once more where it is the one and wants it
asks_where : (same heard : Bool) (ask : Ask) (n : ℕ)
    → cond heard (replicate n ask) [] ++ cond (same && heard) (ask ∷ []) []
    ≡ cond heard (replicate (n + cond same 1 0) ask) []
asks_where true true ask n = asks_more true ask n
asks_where false true ask n = asks_more false ask n
asks_where true false ask n = refl
asks_where false false ask n = refl

-- to one more
pub told_to_more : (node : ℕ) (event : Event) (done : List ℕ) (k : ℕ) (a b c : State) (q r s : List Event)
    → All (λ seat. is_settled seat ≡ true) b.seats → ToldTo node event done a b q r
    → WasToldOne node event k b c r s → ToldTo node event (done ++ k ∷ []) a c q s
told_to_more node event done k a b c q r s settled told was = record {
  steps = told.steps ++ was.steps;
  run = Runs-append told.steps was.steps a b c told.run was.run;
  comes = in_turn_append (ComesTo event) done (k ∷ []) a b c told.steps was.steps told.comes
      (in_turn_one (ComesTo event) k b c was.steps was.comes);
  each = λ id seat last at now on.
      let first = run_follows told.steps a b id seat told.run at in
      let second = run_follows was.steps b c id first.now was.run first.at in
      let own = same_Some second.now last (sym second.at ∙ now) in
      let onward : Later first.now last = subst (λ (t : Seat). Later first.now t) own second.later in
      let is : is_settled first.now ≡ true =
      at_place (λ s. is_settled s ≡ true) b.seats id first.now first.at settled in
      let parts = on_between seat first.now last on first.later onward is (on_lives last on.on_after) in
      steps_ask id told.steps was.steps
      ∙ ap (λ (front : List Ask). front ++ asks_in (calls_of id was.steps))
      (told.each id seat first.now at first.at parts.0)
      ∙ ap (λ (rest : List Ask). cond (hears event seat) (replicate (times id done) (OnEvent event)) [] ++ rest)
      (was.each id first.now last first.at now parts.1
      ∙ ap (λ (h : Bool). cond (eqb k id && h) (OnEvent event ∷ []) []) (hears_later event seat first.now first.later))
      ∙ asks_where (eqb k id) (hears event seat) (OnEvent event) (times id done)
      ∙ ap (λ (n : ℕ). cond (hears event seat) (replicate n (OnEvent event)) []) (sym (times_more id k done));
  raised = was.raised
      ∙ ap (λ (front : List Event). front ++ raised_in node was.steps) told.raised
      ∙ append_assoc q (raised_in node told.steps) (raised_in node was.steps)
      ∙ ap (λ (rest : List Event). q ++ rest) (sym (raised_in-append node told.steps was.steps));
}

-- who is on and isn't to hear an event doesn't want it
not_heard : (on kind wants : Bool) → on ≡ true → ((on && kind) && (kind && wants)) ≡ false → (kind && wants) ≡ false
not_heard true true wants is not = not
not_heard true false wants is not = refl
not_heard false kind wants is not = cc

-- who is to hear an event wants it
is_heard : (on kind wants : Bool) → ((on && kind) && (kind && wants)) ≡ true → (kind && wants) ≡ true
is_heard true true wants is = is
is_heard true false wants is = cc
is_heard false kind wants is = cc

-- nothing where one test fails
none_where : (same heard : Bool) (ask : Ask) → heard ≡ false → [] ≡ cond (same && heard) (ask ∷ []) []
none_where true false ask is = refl
none_where false false ask is = refl
none_where same true ask is = cc

-- a plugin that isn't to hear an event is passed over
pub told_one_none : (node : ℕ) (event : Event) (k : ℕ) (off : Seat) (a : State) (q : List Event)
    → slice_get a.seats k ≡ Some off → is_to_hear event off ≡ false → WasToldOne node event k a a q q
told_one_none node event k off a q there is = record {
  steps = [];
  run = refl;
  comes = inr (record { deaf = ap (hears_there event) there ∙ is; none = refl; same = refl });
  each = λ id seat later at now on.
      ⊎_elim
      (λ (same : k ≡ id).
      let own : seat ≡ off = same_Some seat off (sym at ∙ ap (slice_get a.seats) (sym same) ∙ there) in
      none_where (eqb k id) (hears event seat) (OnEvent event)
      (not_heard (is_on seat) (same_kind kinds.EventHandler seat.who.kind) (wants seat.interest event.kind)
      on.on_before (ap (is_to_hear event) own ∙ is)))
      (λ (other : k ≡ id → ⊥).
      ap (λ (b : Bool). cond (b && hears event seat) (OnEvent event ∷ []) []) (sym (ne_eqb k id other)))
      (cases_eq k id);
  raised = sym (append-nil q);
}

-- what is dropped raises nothing
dropped_raises : (node id count : ℕ) → raised_in node (dropped id count) ≡ []
dropped_raises node id count =
    elim (eqb count 0) as (λ b. raised_in node (cond b [] (Notes id (say.Dropped count) ∷ [])) ≡ [])
    [ true ↦ refl | false ↦ refl ]

-- a turn raises nothing
noted_raises : (node id : ℕ) (ask : Ask) (answer : Answer) → raised_in node (turn_of id ask answer) ≡ []
noted_raises node id ask (Cuts xs) = dropped_raises node id (count_past (Cuts xs))
noted_raises node id ask (Reductions xs) = dropped_raises node id (count_past (Reductions xs))
noted_raises node id ask (Prices brought) = dropped_raises node id (count_past (Prices brought))
noted_raises node id ask (Guesses xs) = dropped_raises node id (count_past (Guesses xs))
noted_raises node id ask (Splits split) = dropped_raises node id (count_past (Splits split))
noted_raises node id ask (Says said) = dropped_raises node id (count_past (Says said))
noted_raises node id ask (Wishes xs) = dropped_raises node id (count_past (Wishes xs))
noted_raises node id ask NoAnswer = refl

-- the wishes that are tried behind a turn
abbrev pub wishes_brought : Option Given → List Wish
wishes_brought None = []
wishes_brought (Some given) = wishes_in (answer_of given)

-- those that were taken out of what was given are these
wishes_same : (brought : Option Given) (wishes : List Wish)
    → MatchOption brought (wishes ≡ []) (λ given. wishes ≡ wishes_in (answer_of given)) → wishes ≡ wishes_brought brought
wishes_same None wishes are = are
wishes_same (Some given) wishes are = are

-- they are the first of the answer
hands_wishes : (said : Answer) (brought : Option Given) → HandsOn said brought
    → wishes_brought brought ≡ wishes_in (first_part said)
hands_wishes said None on = sym (ap (λ (x : Answer). wishes_in (first_part x)) on)
hands_wishes said (Some given) on = ap wishes_in on.1

-- a plugin has its turn, and its wishes are tried
pub told_one_asked : (node : ℕ) (event : Event) (k : ℕ) (own : Seat) (brought : Option Given) (b c d : State)
    (r s : List Event) → slice_get b.seats k ≡ Some own → is_to_hear event own ≡ true
    → HadTurn k (OnEvent event) b c brought → TookQuietly k node (wishes_brought brought) c d r s
    → WasToldOne node event k b d r s
told_one_asked node event k own brought b c d r s there is had took =
    let turn = turn_of k (OnEvent event) had.answer in
    record {
      steps = turn ++ took.steps;
      run = Runs-append turn took.steps b c d had.run took.run;
      comes = inl (record {
        hears = ap (hears_there event) there ∙ is;
        answer = had.answer;
        between = c;
        turn = had.run;
        tries = took.steps;
        tried = subst (λ (wishes : List Wish). InTurn (IsTried k) wishes c took.steps d)
            (hands_wishes had.answer brought had.hands_on) took.tried;
        both = refl;
      });
      each = λ id seat last at now on.
          steps_ask id turn took.steps
          ∙ ap (λ (front : List Ask). front ++ asks_in (calls_of id took.steps)) (turn_asks id k (OnEvent event)
          had.answer)
          ∙ ap (λ (rest : List Ask). cond (eqb k id) (OnEvent event ∷ []) [] ++ rest) (took.quiet id)
          ∙ append-nil (cond (eqb k id) (OnEvent event ∷ []) [])
          ∙ ⊎_elim
          (λ (same : k ≡ id).
          let one : seat ≡ own = same_Some seat own (sym at ∙ ap (slice_get b.seats) (sym same) ∙ there) in
          let heard : hears event seat ≡ true =
          is_heard (is_on seat) (same_kind kinds.EventHandler seat.who.kind) (wants seat.interest event.kind)
          (ap (is_to_hear event) one ∙ is) in
          ap (λ (b : Bool). cond b (OnEvent event ∷ []) []) (eq-eqb k id same)
          ∙ ap (λ (b : Bool). cond b (OnEvent event ∷ []) []) (sym heard)
          ∙ ap (λ (b : Bool). cond (b && hears event seat) (OnEvent event ∷ []) []) (sym (eq-eqb k id same)))
          (λ (other : k ≡ id → ⊥).
          ap (λ (b : Bool). cond b (OnEvent event ∷ []) []) (ne_eqb k id other)
          ∙ ap (λ (b : Bool). cond (b && hears event seat) (OnEvent event ∷ []) []) (sym (ne_eqb k id other)))
          (cases_eq k id);
      raised = took.raised
          ∙ ap (λ (rest : List Event). r ++ rest)
          (sym (raised_in-append node turn took.steps
          ∙ ap (λ (front : List Event). front ++ raised_in node took.steps)
          (noted_raises node k (OnEvent event) had.answer)));
    }

-- a plugin that isn't to hear an event, by its number
pub told_passed : (node : ℕ) (event : Event) (k : ℕ) (a : State) (q : List Event) → IsSome (slice_get a.seats k)
    → hears_there event (slice_get a.seats k) ≡ false → WasToldOne node event k a a q q
told_passed node event k a q there is =
    let at = some_at (slice_get a.seats k) there in
    told_one_none node event k at.0 a q at.1 (ap (hears_there event) (sym at.1) ∙ is)

-- one that is to hear it, behind a change of room alone
pub told_behind : (node : ℕ) (event : Event) (k : ℕ) (brought : Option Given) (a b c d : State) (r s : List Event)
    → b ≡ a → IsSome (slice_get a.seats k) → hears_there event (slice_get a.seats k) ≡ true
    → HadTurn k (OnEvent event) b c brought → TookQuietly k node (wishes_brought brought) c d r s
    → WasToldOne node event k a d r s
told_behind node event k brought a b c d r s same there is had took =
    let at = some_at (slice_get a.seats k) there in
    told_one_asked node event k at.0 brought a c d r s at.1 (ap (hears_there event) (sym at.1) ∙ is)
    (subst (λ (t : State). HadTurn k (OnEvent event) t c brought) same had) took

-- its wishes, if it had any, were tried
pub told_wishes : {A E : Type 0} (node : ℕ) (event : Event) (k : ℕ) (brought : Option Given) (wishes : List Wish)
    (a b c d : State) (r s : List Event) (result : Result A E) → b ≡ a
    → IsSome (slice_get a.seats k) → hears_there event (slice_get a.seats k) ≡ true
    → HadTurn k (OnEvent event) b c brought
    → MatchOption brought (wishes ≡ []) (λ given. wishes ≡ wishes_in (answer_of given))
    → OnOk result (TookQuietly k node wishes c d r s) → OnOk result (WasToldOne node event k a d r s)
told_wishes node event k brought wishes a b c d r s (Ok x) same there is had are took =
    told_behind node event k brought a b c d r s same there is had
    (subst (λ (w : List Wish). TookQuietly k node w c d r s) (wishes_same brought wishes are) took)
told_wishes node event k brought wishes a b c d r s (Err e) same there is had are took = tt

-- what holds where a call failed, as it did
pub where_failed : {A E : Type 0} (P : Type 0) (result : Result A E) → ((x : A) → result ≡ Ok x → ⊥)
    → OnErr result P → P
where_failed P (Ok x) failed holds = absurd (failed x refl)
where_failed P (Err e) failed holds = holds
