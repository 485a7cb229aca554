-- Plugins that are on throughout are served, by one part of the work on a node and by one after the other.
use Rattle.std.proofs.Common.{◌≡◌, ◌≢◌, ℕ, ◌+◌, List, [], ◌∷◌, ◌++◌, map, Some, Bool, true, false, eqb, cond, sym, ◌∙◌, ap, subst, refl, arith, zero-add, add-zero, append-nil, All}
use Rattle.std.specs.Prelude.{slice_get, slice_index_or, Result, Ok, Err, IfOk, OnOk}
use Rattle.std.proofs.lemmas.List.{map-append}
use Rattle.std.proofs.lemmas.List.Sums.{sum_by-cons}
use Rattle.std.specs.List.{Contains}
use Rattle.std.proofs.lemmas.List.Elements.{All-append, All-cons, Contains-append_left, Contains-append_right}
use Rattle.std.proofs.lemmas.Option.{same_Some}
use Rattle.std.proofs.lemmas.Result.{IfOk-weaker}
use Rattle.cip_events.specs.declared.events.Event.{Event}
use Rattle.cip_plugin.specs.Asking.{asks}
use Rattle.cip_plugin.specs.Calls.{Ask, Separate, Propagate, Price, Search, Branch, Enforce, OnEvent, Answer, Call, Init, InitSolve, Asked, ExitSolve, Exit}
use Rattle.cip_plugin.specs.declared.kinds.Kind.{Kind}
use Rattle.cip_plugin.specs.Seats.{Seat, State, is_settled}
use Rattle.cip_plugin.specs.Steps.{Step, Runs, calls_of, asks_in}
use Rattle.cip_plugin.specs.Wishing.{IsOnThroughout, hears, to_each}
use Rattle.cip_plugin.proofs.Hearing.{asks_in-append}
use Rattle.cip_plugin.proofs.Onward.{Later}
use Rattle.cip_plugin.proofs.Running.{calls_of-append, Runs-append, run_follows}
use Rattle.cip_plugin.proofs.Telling.{all_parts}
use Rattle.cip_roster.specs.Wished.{Ran}
use Rattle.cip_roster.proofs.Keeping.{at_place}
use Rattle.cip_roster.proofs.Throughout.{on_between, on_lives, hears_later}
use Rattle.cip_calls.specs.declared.judged.Judged.{Judged}
use Rattle.cip_calls.specs.Served.{handed_out, judged_of, is_wanted, IsServed, Used}
use Rattle.cip_calls.specs.Asked.{ask_in, proposers, count_of, HasAsked, HasTold}
use Rattle.cip_calls.specs.declared.asks.Round.{Round}
use Rattle.cip_calls.specs.declared.asks.Round.TheVariants as round
use Rattle.cip_calls.specs.declared.judging.Came.{Came}
use Rattle.cip_calls.specs.declared.judging.Came.TheVariants as ends
use Rattle.cip_calls.specs.Noted.{HasNoted, HasJudged, makers}
use Rattle.cip_calls.proofs.Asking.{count_more, handed-append}

-- ---- one part after the other

-- a later seat is asked the same
wanted_later : (ask : Ask) (s t : Seat) → Later s t → is_wanted ask t ≡ is_wanted ask s
wanted_later Separate s t l = ap (λ (k : Kind). asks k Separate) l.kind
wanted_later Propagate s t l = ap (λ (k : Kind). asks k Propagate) l.kind
wanted_later (Price block costs) s t l = ap (λ (k : Kind). asks k (Price block costs)) l.kind
wanted_later Search s t l = ap (λ (k : Kind). asks k Search) l.kind
wanted_later Branch s t l = ap (λ (k : Kind). asks k Branch) l.kind
wanted_later Enforce s t l = ap (λ (k : Kind). asks k Enforce) l.kind
wanted_later (OnEvent event) s t l = hears_later event s t l

-- the seat of a plugin that is on throughout, between two parts
pub record Between (id : ℕ) (s : Seat) (b : State) (u : Seat) : Type 0 where
  pub seat : Seat
  pub at : slice_get b.seats id ≡ Some seat
  pub later : Later s seat
  pub first : IsOnThroughout s seat
  pub second : IsOnThroughout seat u

pub between : (xs ys : List Step) (a b c : State) (id : ℕ) (s u : Seat) → Runs a xs b → Runs b ys c
    → All (λ seat. is_settled seat ≡ true) b.seats → slice_get a.seats id ≡ Some s → slice_get c.seats id ≡ Some u
    → IsOnThroughout s u → Between id s b u
between xs ys a b c id s u first second settled at now on =
    let f = run_follows xs a b id s first at in
    let g = run_follows ys b c id f.now second f.at in
    let same : g.now ≡ u = same_Some g.now u (sym g.at ∙ now) in
    let later : Later f.now u = subst (λ (t : Seat). Later f.now t) same g.later in
    let parts = on_between s f.now u on f.later later (at_place (λ seat. is_settled seat ≡ true) b.seats id f.now f.at settled) (on_lives u on.on_after) in
    record { seat = f.now; at = f.at; later = f.later; first = parts.0; second = parts.1 }

-- what holds of all of a list gives another thing of all
pub all_so : {A : Type 0} (P Q : A → Type 0) (xs : List A) → ((x : A) → P x → Q x) → All P xs → All Q xs
all_so P Q xs so all = λ i d within. so (slice_index_or xs i d) (all i d within)

served_further : (qs ws : List Ask) (s t : Seat) (xs ys : List Call) (h m e : ℕ) → Later s t → IsServed qs s xs h m
    → IsServed ws t ys m e → IsServed (qs ++ ws) s (xs ++ ys) h e
served_further qs ws s t xs ys h m e later first second =
    let W : Ask → Type 0 = λ ask. is_wanted ask s ≡ true → Contains (asks_in (xs ++ ys)) ask in
    record {
      asked = All-append W qs ws
          (all_so (λ ask. is_wanted ask s ≡ true → Contains (asks_in xs) ask) W qs
          (λ ask so wanted. subst (λ (l : List Ask). Contains l ask) (sym (asks_in-append xs ys))
          (Contains-append_left (asks_in xs) (asks_in ys) ask (so wanted))) first.asked)
          (all_so (λ ask. is_wanted ask t ≡ true → Contains (asks_in ys) ask) W ws
          (λ ask so wanted. subst (λ (l : List Ask). Contains l ask) (sym (asks_in-append xs ys))
          (Contains-append_right (asks_in xs) (asks_in ys) ask (so (wanted_later ask s t later ∙ wanted)))) second.asked);
      judged = omega (arith, first.judged, second.judged, handed-append xs ys);
    }

pub used_further : (qs ws : List Ask) (a b c : State) (h m e : List (ℕ × Judged))
    → All (λ seat. is_settled seat ≡ true) b.seats → Used qs a h b m → Used ws b m c e → Used (qs ++ ws) a h c e
used_further qs ws a b c h m e settled first second = record {
  steps = first.steps ++ second.steps;
  run = Runs-append first.steps second.steps a b c first.run second.run;
  each = λ id s u at now on.
      let mid = between first.steps second.steps a b c id s u first.run second.run settled at now on in
      subst (λ (calls : List Call). IsServed (qs ++ ws) s calls (judged_of id h) (judged_of id e))
      (sym (calls_of-append id first.steps second.steps))
      (served_further qs ws s mid.seat (calls_of id first.steps) (calls_of id second.steps) (judged_of id h) (judged_of id m) (judged_of id e) mid.later
      (first.each id s mid.seat at mid.at mid.first) (second.each id mid.seat u mid.at now mid.second));
}

-- some of what was asked
pub used_first : (qs ws : List Ask) (a b : State) (h m : List (ℕ × Judged)) → Used (qs ++ ws) a h b m → Used qs a h b m
used_first qs ws a b h m used = record {
  steps = used.steps;
  run = used.run;
  each = λ id s u at now on.
      let served = used.each id s u at now on in
      record {
        asked = (all_parts (λ ask. is_wanted ask s ≡ true → Contains (asks_in (calls_of id used.steps)) ask) qs ws served.asked).0;
        judged = served.judged;
      };
}

-- the same once more
pub used_again : (qs : List Ask) (a b c : State) (h m e : List (ℕ × Judged))
    → All (λ seat. is_settled seat ≡ true) b.seats → Used qs a h b m → Used qs b m c e → Used qs a h c e
used_again qs a b c h m e settled first second =
    used_first qs qs a c h e (used_further qs qs a b c h m e settled first second)

-- and the rest of it
pub used_last : (qs ws : List Ask) (a b : State) (h m : List (ℕ × Judged)) → Used (qs ++ ws) a h b m → Used ws a h b m
used_last qs ws a b h m used = record {
  steps = used.steps;
  run = used.run;
  each = λ id s u at now on.
      let served = used.each id s u at now on in
      record {
        asked = (all_parts (λ ask. is_wanted ask s ≡ true → Contains (asks_in (calls_of id used.steps)) ask) qs ws served.asked).1;
        judged = served.judged;
      };
}

-- no step
pub used_none : (a : State) (h : List (ℕ × Judged)) → Used [] a h a h
used_none a h = record {
  steps = [];
  run = refl;
  each = λ id s u at now on. record { asked = λ i d within. absurd (omega (arith, within)); judged = sym (add-zero (judged_of id h)) };
}

pub nothing_there : (id : ℕ) (s : Seat) → slice_get [] id ≡ Some s → ⊥
nothing_there id s at = cc

-- nobody has a seat
pub used_run : (qs : List Ask) (a b : State) (h m : List (ℕ × Judged)) → a.seats ≡ [] → Ran a b → Used qs a h b m
used_run qs a b h m none ran = record {
  steps = ran.steps;
  run = ran.run;
  each = λ id s u at now on. absurd (nothing_there id s (subst (λ (l : List Seat). slice_get l id ≡ Some s) none at));
}

pub used_nobody : (qs : List Ask) (a : State) (h : List (ℕ × Judged)) → a.seats ≡ [] → Used qs a h a h
used_nobody qs a h none = used_run qs a a h h none (record { steps = []; run = refl })

-- ---- a round

-- of proposals that were judged, by who made them
pub judged_by : (id : ℕ) (judged : List (ℕ × Judged)) → judged_of id judged ≡ count_of id (makers judged)
judged_by id [] = refl
judged_by id (entry ∷ judged) =
    sum_by-cons (λ (e : ℕ × Judged). cond (eqb e.0 id) 1 0) entry judged
    ∙ ap (λ n. cond (eqb entry.0 id) 1 0 + n) (judged_by id judged)
    ∙ sym (sum_by-cons (λ k. cond (eqb k id) 1 0) entry.0 (makers judged))

only_one : (ask : Ask) (asked : List Ask) (b : Bool) → asked ≡ cond b (ask ∷ []) [] → b ≡ true → Contains asked ask
only_one ask asked true e t = subst (λ (l : List Ask). Contains l ask) (sym e) (0, omega arith, refl)
only_one ask asked false e t = cc

-- all were asked, notes were written, and what they gave was judged
pub round_used : (ask : Ask) (a b c : State) (gave : List (ℕ × Answer)) (had has : List (ℕ × Judged))
    → ((s : Seat) → is_wanted ask s ≡ asks s.who.kind ask) → All (λ seat. is_settled seat ≡ true) b.seats
    → HasAsked ask a b gave → HasNoted b c → makers has ≡ makers had ++ proposers ask gave → Used (ask ∷ []) a had c has
round_used ask a b c gave had has plain settled asked noted entered = record {
  steps = asked.some.steps ++ noted.steps;
  run = Runs-append asked.some.steps noted.steps a b c asked.some.run noted.run;
  each = λ id s u at now on.
      let mid = between asked.some.steps noted.steps a b c id s u asked.some.run noted.run settled at now on in
      let calls : calls_of id (asked.some.steps ++ noted.steps) ≡ calls_of id asked.some.steps =
      calls_of-append id asked.some.steps noted.steps ∙ ap (λ (l : List Call). calls_of id asked.some.steps ++ l) (noted.silent id) ∙ append-nil (calls_of id asked.some.steps) in
      let once = asked.each id s mid.seat at mid.at mid.first in
      let count : judged_of id has ≡ judged_of id had + handed_out (calls_of id asked.some.steps) =
      judged_by id has ∙ ap (count_of id) entered ∙ count_more id (makers had) (proposers ask gave)
      ∙ ap (λ n. n + count_of id (proposers ask gave)) (sym (judged_by id had))
      ∙ ap (λ n. judged_of id had + n) (sym (asked.some.handed id)) in
      subst (λ (l : List Call). IsServed (ask ∷ []) s l (judged_of id had) (judged_of id has)) (sym calls) (record {
        asked = All-cons (λ ask. is_wanted ask s ≡ true → Contains (asks_in (calls_of id asked.some.steps)) ask) ask []
            (λ wanted. only_one ask (asks_in (calls_of id asked.some.steps)) (asks s.who.kind ask) once (sym (plain s) ∙ wanted))
            (λ i d within. absurd (omega (arith, within)));
        judged = count;
      });
}

-- ---- a delivery

-- events alone
abbrev AreTold : List Ask → Type 0
AreTold [] = Unit {0}
AreTold (OnEvent event ∷ asks) = AreTold asks
AreTold (ask ∷ asks) = ⊥

told_each : (s : Seat) (events : List Event) → AreTold (to_each s events)
told_each s [] = tt
told_each s (event ∷ events) =
    elim (hears event s) as (λ b. AreTold (cond b (OnEvent event ∷ to_each s events) (to_each s events)))
    [ true ↦ told_each s events | false ↦ told_each s events ]

-- what is told asks for no proposals
handed_told : (calls : List Call) → AreTold (asks_in calls) → handed_out calls ≡ 0
handed_told [] h = refl
handed_told (Init was ∷ calls) h = handed_told calls h
handed_told (InitSolve was ∷ calls) h = handed_told calls h
handed_told (Asked (OnEvent event) given ∷ calls) h = zero-add (handed_out calls) ∙ handed_told calls h
handed_told (Asked Separate given ∷ calls) h = absurd h
handed_told (Asked Propagate given ∷ calls) h = absurd h
handed_told (Asked (Price block costs) given ∷ calls) h = absurd h
handed_told (Asked Search given ∷ calls) h = absurd h
handed_told (Asked Branch given ∷ calls) h = absurd h
handed_told (Asked Enforce given ∷ calls) h = absurd h
handed_told (ExitSolve ∷ calls) h = handed_told calls h
handed_told (Exit ∷ calls) h = handed_told calls h

has_own : (b : Bool) (ask : Ask) (rest : List Ask) → b ≡ true → Contains (cond b (ask ∷ rest) rest) ask
has_own true ask rest e = (0, omega arith, refl)
has_own false ask rest e = cc

has_still : (b : Bool) (first : Ask) (rest : List Ask) (ask : Ask) → Contains rest ask → Contains (cond b (first ∷ rest) rest) ask
has_still true first rest ask h = Contains-append_right (first ∷ []) rest ask h
has_still false first rest ask h = h

all_told : (s : Seat) (events others : List Event)
    → All (λ ask. is_wanted ask s ≡ true → Contains (to_each s (events ++ others)) ask) (map (λ event. OnEvent event) events)
all_told s [] others = λ i d within. absurd (omega (arith, within))
all_told s (event ∷ events) others =
    let rest = to_each s (events ++ others) in
    let W : Ask → Type 0 = λ ask. is_wanted ask s ≡ true → Contains (cond (hears event s) (OnEvent event ∷ rest) rest) ask in
    All-cons W (OnEvent event) (map (λ event. OnEvent event) events) (λ wanted. has_own (hears event s) (OnEvent event) rest wanted)
    (all_so (λ ask. is_wanted ask s ≡ true → Contains rest ask) W (map (λ event. OnEvent event) events)
    (λ ask so wanted. has_still (hears event s) (OnEvent event) rest ask (so wanted)) (all_told s events others))

pub told_used : (events : List Event) (a b : State) (h : List (ℕ × Judged)) → HasTold events a b
    → Used (map (λ event. OnEvent event) events) a h b h
told_used events a b h told = record {
  steps = told.steps;
  run = told.run;
  each = λ id s u at now on.
      let heard = told.each id s u at now on in
      let calls = calls_of id told.steps in
      let none = handed_told calls (subst AreTold (sym heard.1) (told_each s (events ++ heard.0))) in
      record {
        asked = subst (λ (l : List Ask). All (λ ask. is_wanted ask s ≡ true → Contains l ask) (map (λ event. OnEvent event) events))
            (sym heard.1) (all_told s events heard.0);
        judged = omega (arith, none);
      };
}

-- of what was told, the last event
pub told_last : (events waits : List Event) (event : Event) (a b : State) (h m : List (ℕ × Judged)) → waits ≡ events ++ event ∷ []
    → Used (map (λ e. OnEvent e) waits) a h b m → Used (OnEvent event ∷ []) a h b m
told_last events waits event a b h m e used =
    used_last (map (λ e. OnEvent e) events) (OnEvent event ∷ []) a b h m
    (subst (λ (l : List Ask). Used l a h b m) (ap (map (λ e. OnEvent e)) e ∙ map-append (λ e. OnEvent e) events (event ∷ [])) used)

-- that a node was taken up is told
pub focus_used : (silent : Bool) (events waits : List Event) (event : Event) (a b : State) (h m : List (ℕ × Judged))
    → (silent ≡ true → a.seats ≡ []) → (silent ≡ false → waits ≡ events ++ event ∷ [])
    → Used (map (λ e. OnEvent e) waits) a h b m → Used (OnEvent event ∷ []) a h b m
focus_used true events waits event a b h m none some used =
    used_run (OnEvent event ∷ []) a b h m (none refl) (record { steps = used.steps; run = used.run })
focus_used false events waits event a b h m none some used = told_last events waits event a b h m (some refl) used

-- ---- answers

pub all_ok : {A E : Type 0} (r : Result A E) (P : A → Type 0) → ((x : A) → P x) → IfOk r P
all_ok (Ok x) P h = h x
all_ok (Err e) P h = tt

-- where none showed that the node is empty
pub never_empty : {E : Type 0} (r : Result Came E) (P : Type 0) → IfOk r (λ came. came ≢ ends.Emptied) → IfOk r (λ came. came ≡ ends.Emptied → P)
never_empty (Ok came) P h = λ e. absurd (h e)
never_empty (Err e) P h = tt

-- all that a plugin gave was judged
pub judged_open : {E : Type 0} (r : Result Came E) (id m n : ℕ) (had has : List (ℕ × Judged)) → m ≡ n → OnOk r (HasJudged id m had has) → IfOk r (λ came. came ≢ ends.Emptied → HasJudged id n had has)
judged_open (Ok came) id m n had has e h = λ other. subst (λ k. HasJudged id k had has) e h
judged_open (Err error) id m n had has e h = tt

-- the same, by what is known first
pub then_ok : {A E : Type 0} (r : Result A E) (P Q : A → Type 0) → IfOk r P → ((x : A) → P x → Q x) → IfOk r Q
then_ok r P Q h so = IfOk-weaker r P Q so h

pub on_ok : {A E : Type 0} (r : Result A E) (P Q : Type 0) → (P → Q) → OnOk r P → OnOk r Q
on_ok (Ok x) P Q so h = so h
on_ok (Err e) P Q so h = tt

-- what is asked in a round is asked of kinds alone
pub round_plain : (r : Round) (s : Seat) → is_wanted (ask_in r) s ≡ asks s.who.kind (ask_in r)
round_plain round.Cuts s = refl
round_plain round.Sides s = refl
round_plain round.Points s = refl

-- who was accepted shows nothing empty
pub accepted_open : ends.Accepted ≡ ends.Emptied → ⊥
accepted_open e = cc
