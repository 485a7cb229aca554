-- What the roster's calls come to.
use Rattle.std.proofs.Common.{◌≡◌, ℕ, ◌+◌, List, [], ◌∷◌, ◌++◌, map, length, take, drop, Option, None, Some, true, cond, sym, ◌∙◌, ap, subst, refl, append-nil, All}
use Rattle.std.specs.Prelude.{slice_get, ◌&&◌, Result, Ok, Err, IfOk, OnOk, OnErr}
use Rattle.std.proofs.lemmas.List.{map-append, take-append-drop}
use Rattle.cip_plugin.specs.Asking.{asks, answer_of, first_part}
use Rattle.cip_plugin.specs.Calls.{Ask, Separate, Propagate, Search, Branch, Enforce, Answer}
use Rattle.cip_plugin.specs.declared.asking.Given.{Given}
use Rattle.cip_plugin.specs.declared.kinds.Kind.{Kind}
use Rattle.cip_plugin.specs.declared.kinds.Kind.TheVariants as kinds
use Rattle.cip_plugin.specs.Seats.{Seat, State, is_on, is_settled}
use Rattle.cip_plugin.specs.Steps.{Step, Runs, calls_of, asks_in}
use Rattle.cip_plugin.specs.Calling.{same_kind, is_ready, is_answer, turn_of, all_turns, given_of}
use Rattle.cip_events.specs.declared.events.Event.{Event}
use Rattle.cip_plugin.specs.Delivering.{Delivered}
use Rattle.cip_plugin.specs.Wishing.{raised_in}
use Rattle.cip_plugin.proofs.Hearing.{asks_in-append, asked_once}
use Rattle.cip_plugin.proofs.Running.{calls_of-append, Runs-append}
use Rattle.cip_roster.specs.Nexts.{CalledNext}
use Rattle.cip_roster.specs.KeptRankings.{Room}
use Rattle.cip_roster.specs.Turns.{IsSound, CalledKind, CalledBoth, HandsOn, HadTurn, handed}
use Rattle.cip_roster.specs.Wished.{Ran}
use Rattle.cip_roster.proofs.Giving.{next_by}
use Rattle.cip_roster.proofs.Calm.{run_calm, turns_calm, settled_alike}
use Rattle.cip_calls.specs.Served.{handed_out}
use Rattle.cip_calls.specs.Asked.{told, told_next, proposers, count_of, HasAskedSome, HasAsked, HasTold, IsSeatedNext}
use Rattle.cip_calls.proofs.Asking.{count_more, handed-append, proposers-append, turns_hand}
use Rattle.cip_calls.proofs.Serving.{between}

-- ---- all plugins of a kind

-- who is on is ready where the kind is its own
ready_test : (kind : Kind) (s : Seat) → is_on s ≡ true → is_ready kind s ≡ same_kind kind s.who.kind
ready_test kind s on = ap (λ b. b && same_kind kind s.who.kind) on

kind_once : (kind : Kind) (ask : Ask) (a b : State) (had has : List (ℕ × Given))
    (c : CalledKind kind ask a b had has) (id : ℕ) (s : Seat) → slice_get a.seats id ≡ Some s → is_on s ≡ true
    → asks_in (calls_of id (all_turns ask c.called.heard)) ≡ cond (same_kind kind s.who.kind) (ask ∷ []) []
kind_once kind ask a b had has c id s at on =
    asked_once (is_ready kind) a.seats c.keys ask c.called.heard id s c.permutation (sym c.called.ids) at
    ∙ ap (λ b. cond b (ask ∷ []) []) (ready_test kind s on)

pub one_asked : (kind : Kind) (ask : Ask) (a b : State) (has : List (ℕ × Given))
    → ((k : Kind) → same_kind kind k ≡ asks k ask) → CalledKind kind ask a b [] has → HasAsked ask a b (told has)
one_asked kind ask a b has fits c =
    let given : told has ≡ given_of c.called.heard = c.called.given in
    record {
      some = record {
        steps = all_turns ask c.called.heard;
        run = c.called.run;
        handed = λ id. turns_hand id ask c.called.heard ∙ ap (λ (g : List (ℕ × Answer)). count_of id (proposers ask g)) (sym given);
      };
      each = λ id s u at now on.
          kind_once kind ask a b [] has c id s at on.on_before ∙ ap (λ t. cond t (ask ∷ []) []) (fits s.who.kind);
    }

-- those of a kind, and then the handlers
settled_between : (kind : Kind) (ask : Ask) (a m : State) (had has : List (ℕ × Given)) (room : Room)
    → IsSound a room → CalledKind kind ask a m had has → All (λ seat. is_settled seat ≡ true) m.seats
settled_between kind ask a m had has room sound c =
    settled_alike a m (run_calm (all_turns ask c.called.heard) a m (turns_calm ask c.called.heard) c.called.run) sound.settled

-- what is given by both
given_both : (some has : List (ℕ × Given)) (xs ys : List (ℕ × Answer)) → take (length some) has ≡ some
    → handed [] some ≡ xs → handed some has ≡ ys → told has ≡ xs ++ ys
given_both some has xs ys kept first second =
    let tell : (ℕ × Given) → ℕ × Answer = λ entry. (entry.0, answer_of entry.1) in
    ap (map tell) (sym (take-append-drop (length some) has)) ∙ map-append tell (take (length some) has) (drop (length some) has)
    ∙ ap (λ (l : List (ℕ × Given)). map tell l ++ map tell (drop (length some) has)) kept
    ∙ ap (λ (l : List (ℕ × Answer)). l ++ map tell (drop (length some) has)) first
    ∙ ap (λ (l : List (ℕ × Answer)). xs ++ l) second

both_hand : (id : ℕ) (ask : Ask) (xs ys : List (ℕ × Answer)) (gave : List (ℕ × Answer)) → gave ≡ given_of xs ++ given_of ys
    → handed_out (calls_of id (all_turns ask xs ++ all_turns ask ys)) ≡ count_of id (proposers ask gave)
both_hand id ask xs ys gave e =
    ap handed_out (calls_of-append id (all_turns ask xs) (all_turns ask ys))
    ∙ handed-append (calls_of id (all_turns ask xs)) (calls_of id (all_turns ask ys))
    ∙ ap (λ n. n + handed_out (calls_of id (all_turns ask ys))) (turns_hand id ask xs)
    ∙ ap (λ n. count_of id (proposers ask (given_of xs)) + n) (turns_hand id ask ys)
    ∙ sym (count_more id (proposers ask (given_of xs)) (proposers ask (given_of ys)))
    ∙ ap (count_of id) (sym (proposers-append ask (given_of xs) (given_of ys)))
    ∙ ap (λ (g : List (ℕ × Answer)). count_of id (proposers ask g)) (sym e)

pub both_asked : (kind : Kind) (ask : Ask) (a b : State) (has : List (ℕ × Given)) (room : Room)
    → ((k : Kind) → cond (same_kind kind k) (ask ∷ []) [] ++ cond (same_kind kinds.ConsHandler k) (ask ∷ []) [] ≡ cond (asks k ask) (ask ∷ []) [])
    → IsSound a room → CalledBoth kind ask a b has → HasAsked ask a b (told has)
both_asked kind ask a b has room fits sound c =
    let m = c.between in
    let xs = c.first.called.heard in
    let ys = c.second.called.heard in
    let gave : told has ≡ given_of xs ++ given_of ys = given_both c.some has (given_of xs) (given_of ys) c.second.kept c.first.called.given c.second.called.given in
    let settled = settled_between kind ask a m [] c.some room sound c.first in
    record {
      some = record {
        steps = all_turns ask xs ++ all_turns ask ys;
        run = Runs-append (all_turns ask xs) (all_turns ask ys) a m b c.first.called.run c.second.called.run;
        handed = λ id. both_hand id ask xs ys (told has) gave;
      };
      each = λ id s u at now on.
          let mid = between (all_turns ask xs) (all_turns ask ys) a m b id s u c.first.called.run c.second.called.run settled at now on in
          ap asks_in (calls_of-append id (all_turns ask xs) (all_turns ask ys))
          ∙ asks_in-append (calls_of id (all_turns ask xs)) (calls_of id (all_turns ask ys))
          ∙ ap (λ (l : List Ask). l ++ asks_in (calls_of id (all_turns ask ys))) (kind_once kind ask a m [] c.some c.first id s at on.on_before)
          ∙ ap (λ (l : List Ask). cond (same_kind kind s.who.kind) (ask ∷ []) [] ++ l)
          (kind_once kinds.ConsHandler ask m b c.some has c.second id mid.seat mid.at mid.second.on_before
          ∙ ap (λ k. cond (same_kind kinds.ConsHandler k) (ask ∷ []) []) mid.later.kind)
          ∙ fits s.who.kind;
    }

pub separators : (k : Kind) → cond (same_kind kinds.Separator k) (Separate ∷ []) [] ++ cond (same_kind kinds.ConsHandler k) (Separate ∷ []) [] ≡ cond (asks k Separate) (Separate ∷ []) []
separators kinds.Separator = refl
separators kinds.Propagator = refl
separators kinds.Pricer = refl
separators kinds.Heuristic = refl
separators kinds.BranchRule = refl
separators kinds.ConsHandler = refl
separators kinds.EventHandler = refl

pub propagators : (k : Kind) → cond (same_kind kinds.Propagator k) (Propagate ∷ []) [] ++ cond (same_kind kinds.ConsHandler k) (Propagate ∷ []) [] ≡ cond (asks k Propagate) (Propagate ∷ []) []
propagators kinds.Separator = refl
propagators kinds.Propagator = refl
propagators kinds.Pricer = refl
propagators kinds.Heuristic = refl
propagators kinds.BranchRule = refl
propagators kinds.ConsHandler = refl
propagators kinds.EventHandler = refl

pub heuristics : (k : Kind) → same_kind kinds.Heuristic k ≡ asks k Search
heuristics kinds.Separator = refl
heuristics kinds.Propagator = refl
heuristics kinds.Pricer = refl
heuristics kinds.Heuristic = refl
heuristics kinds.BranchRule = refl
heuristics kinds.ConsHandler = refl
heuristics kinds.EventHandler = refl

pub rules : (k : Kind) → same_kind kinds.BranchRule k ≡ asks k Branch
rules kinds.Separator = refl
rules kinds.Propagator = refl
rules kinds.Pricer = refl
rules kinds.Heuristic = refl
rules kinds.BranchRule = refl
rules kinds.ConsHandler = refl
rules kinds.EventHandler = refl

pub enforcers : (k : Kind) → same_kind kinds.ConsHandler k ≡ asks k Enforce
enforcers kinds.Separator = refl
enforcers kinds.Propagator = refl
enforcers kinds.Pricer = refl
enforcers kinds.Heuristic = refl
enforcers kinds.BranchRule = refl
enforcers kinds.ConsHandler = refl
enforcers kinds.EventHandler = refl

-- ---- one plugin at a time

pub given_next : (id : ℕ) (heard : Answer) (given : Option Given) → HandsOn heard given
    → told_next (Some (id, given)) ≡ given_of ((id, heard) ∷ [])
given_next id heard None e = sym (ap (λ (x : Answer). cond (is_answer x) ((id, first_part x) ∷ []) []) e)
given_next id heard (Some given) h =
    ap (λ (x : Answer). (id, x) ∷ []) h.1 ∙ sym (ap (λ t. cond t ((id, first_part heard) ∷ []) []) h.0)

abbrev pub turn_some : (id : ℕ) (ask : Ask) (a b : State) (given : Option Given) → HadTurn id ask a b given
    → HasAskedSome ask a b (told_next (Some (id, given)))
turn_some id ask a b given had =
    let heard : List (ℕ × Answer) = (id, had.answer) ∷ [] in
    let run : Runs a (all_turns ask heard) b = subst (λ (l : List Step). Runs a l b) (sym (append-nil (turn_of id ask had.answer))) had.run in
    let gave = given_next id had.answer given had.hands_on in
    record {
      steps = all_turns ask heard;
      run = run;
      handed = λ k. turns_hand k ask heard ∙ ap (λ (g : List (ℕ × Answer)). count_of k (proposers ask g)) (sym gave);
    }

pub some_none : (ask : Ask) (a : State) → HasAskedSome ask a a []
some_none ask a = record { steps = []; run = refl; handed = λ id. refl }

-- ---- runs

pub kind_run : (kind : Kind) (ask : Ask) (a b : State) (had has : List (ℕ × Given)) → CalledKind kind ask a b had has → Ran a b
kind_run kind ask a b had has c = record { steps = all_turns ask c.called.heard; run = c.called.run }

pub both_run : (kind : Kind) (ask : Ask) (a b : State) (has : List (ℕ × Given)) → CalledBoth kind ask a b has → Ran a b
both_run kind ask a b has c = record {
  steps = all_turns ask c.first.called.heard ++ all_turns ask c.second.called.heard;
  run = Runs-append (all_turns ask c.first.called.heard) (all_turns ask c.second.called.heard) a c.between b c.first.called.run c.second.called.run;
}

pub delivered_run : (node : ℕ) (events : List Event) (a b : State) → Delivered node events a b → Ran a b
delivered_run node events a b d = record { steps = d.steps; run = d.run }

-- what was delivered was told
pub delivered_told : (node : ℕ) (events : List Event) (a b : State) → Delivered node events a b → HasTold events a b
delivered_told node events a b d = record {
  steps = d.steps;
  run = d.run;
  each = λ id s u at now on. (raised_in node d.steps, d.each id s u at now on);
}

pub next_seated : (kind : Kind) (ask : Ask) (named : Option ℕ) (a b : State) (gave : Option (ℕ × Option Given))
    → CalledNext kind ask named a b gave → IsSeatedNext b gave
next_seated kind ask named a b None c = tt
next_seated kind ask named a b (Some (id, given)) c = next_by kind ask named a b id given c

-- ---- either answer

pub either : {A E : Type 0} (r : Result A E) (P : A → Type 0) (Q T : Type 0) → IfOk r P → OnErr r Q → ((x : A) → P x → T) → (Q → T) → T
either (Ok x) P Q T h k so other = so x h
either (Err e) P Q T h k so other = other k

pub either_on : {A E : Type 0} (r : Result A E) (P Q T : Type 0) → (P → T) → (Q → T) → OnOk r P → OnErr r Q → T
either_on (Ok x) P Q T so other h k = so h
either_on (Err e) P Q T so other h k = other k
