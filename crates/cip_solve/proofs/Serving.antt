-- How often plugins are asked, over the work on one node and the next.
use Rattle.std.proofs.Common.{◌≡◌, inl, inr, ℕ, ◌+◌, ◌≤◌, ◌||◌, List, [], ◌∷◌, ◌++◌, length, All, Bool, true, Option, Some, Result, Ok, Err, Contains, refl, ap, ◌∙◌, subst, arith, length-append, add-zero}
use Rattle.std.specs.Prelude.{slice_get, MatchResult}
use Rattle.std.proofs.lemmas.List.Elements.{All-contains, Contains-append_right}
use Rattle.std.proofs.lemmas.List.Sums.{sum_by-append, sum_by-cons}
use Rattle.std.proofs.lemmas.Bool.{or_cases}
use Rattle.cip_problem.specs.Log.{Split, Closed, Parked, Entry, Node}
use Rattle.cip_problem.proofs.Log.Entering.{contains_here}
use Rattle.cip_problem.proofs.Covers.{none_of_nothing}
use Rattle.cip_events.specs.Events.{event_at}
use Rattle.cip_events.specs.declared.events.EventKind.TheVariants.{NodeFocused}
use Rattle.cip_plugin.specs.Asking.{asks}
use Rattle.cip_plugin.specs.Calls.{Ask, Separate, Propagate, Search, OnEvent, Call}
use Rattle.cip_plugin.specs.Seats.{Seat, State, is_settled}
use Rattle.cip_plugin.specs.Steps.{Step, calls_of, asks_in}
use Rattle.cip_plugin.proofs.Hearing.{asks_in-append}
use Rattle.cip_plugin.proofs.Running.{calls_of-append, Runs-append}
use Rattle.cip_solve.specs.Wished.{Ran}
use Rattle.cip_solve.specs.Served.{is_wanted, IsServed}
use Rattle.cip_calls.proofs.PassedOn.{between}
use Rattle.cip_solve.specs.CoreStates.{CoreState}
use Rattle.cip_solve.specs.Mark.{Mark}
use Rattle.cip_solve.specs.NodeEnd.{NodeEnd}
use Rattle.cip_solve.specs.NodeEnd.TheVariants as by
use Rattle.cip_solve.specs.NodeRecord.{NodeRecord}
use Rattle.cip_solve.specs.Judged.{Judged}
use Rattle.cip_solve.specs.NodesReached.{asks_in_pass}
use Rattle.cip_solve.specs.NodesDone.{asks_for_split, asks_until, IsUsedAt}
use Rattle.cip_solve.specs.NodesWorked.{IsWorkedEnd}
use Rattle.cip_solve.specs.SplitsServed.{split_count, splits_in, splits_by, is_worker, HasServed}

-- ---- one part after the other

pub served_none : (a : State) → HasServed 0 a a
served_none a = record { steps = []; run = refl; each = λ id s u at now on w. omega arith }

pub served_run : (a b : State) → Ran a b → HasServed 0 a b
served_run a b ran = record { steps = ran.steps; run = ran.run; each = λ id s u at now on w. omega arith }

asks_more : (id : ℕ) (xs ys : List Step) → length (asks_in (calls_of id (xs ++ ys))) ≡ length (asks_in (calls_of id xs)) + length (asks_in (calls_of id ys))
asks_more id xs ys =
    ap (λ l. length (asks_in l)) (calls_of-append id xs ys)
    ∙ (ap length (asks_in-append (calls_of id xs) (calls_of id ys)) ∙ length-append (asks_in (calls_of id xs)) (asks_in (calls_of id ys)))

pub served_further : (n m : ℕ) (a b c : State) → All (λ seat. is_settled seat ≡ true) b.seats → HasServed n a b → HasServed m b c → HasServed (n + m) a c
served_further n m a b c settled first second = record {
  steps = first.steps ++ second.steps;
  run = Runs-append first.steps second.steps a b c first.run second.run;
  each = λ id s u at now on w.
      let mid = between first.steps second.steps a b c id s u first.run second.run settled at now on in
      let n_there = first.each id s mid.seat at mid.at mid.first w in
      let m_there = second.each id mid.seat u mid.at now mid.second (ap is_worker mid.later.kind ∙ w) in
      omega (arith, n_there, m_there, asks_more id first.steps second.steps);
}

pub served_then : (n : ℕ) (a b c : State) → All (λ seat. is_settled seat ≡ true) b.seats → HasServed n a b → Ran b c → HasServed n a c
served_then n a b c settled first ran = subst (λ k. HasServed k a c) (add-zero n) (served_further n 0 a b c settled first (served_run b c ran))

-- nobody has a seat
pub nobody_served : (n : ℕ) (a : State) → a.seats ≡ [] → HasServed n a a
nobody_served n a e = record {
  steps = [];
  run = refl;
  each = λ id s u at now on w. absurd (no_seat id s (subst (λ seats. slice_get seats id ≡ Some s) e at));
}
  where
    no_seat : (id : ℕ) (s : Seat) → slice_get [] id ≡ Some s → ⊥
    no_seat id s e = cc

pub nobody_each : {E : Type 0} (r : Result (NodeEnd × NodeRecord) E) (a : State) → a.seats ≡ [] → MatchResult r (λ done. HasServed (splits_by done.0) a a) (λ _. HasServed 0 a a)
nobody_each (Ok done) a e = nobody_served (splits_by done.0) a e
nobody_each (Err error) a e = served_none a

-- ---- a node that was split

some_there : {X : Type 0} (xs : List X) (x : X) → Contains xs x → 1 ≤ length xs
some_there [] x c = absurd (none_of_nothing x c)
some_there (y ∷ ys) x c = omega arith

worker_asked : (number : ℕ) (proposed : Bool) (end : NodeEnd) (seat : Seat) (calls : List Call) (had has : ℕ) → IsServed (asks_until number proposed end) seat calls had has → is_worker seat.who.kind ≡ true → 1 ≤ length (asks_in calls)
worker_asked number proposed end seat calls had has served w = elim (or_cases (asks seat.who.kind Propagate) (asks seat.who.kind Separate || asks seat.who.kind Search) w) [
  | inl p ↦ asked Propagate (behind Propagate (contains_here Propagate (Separate ∷ Search ∷ asks_for_split proposed end))) p
  | inr r ↦ elim (or_cases (asks seat.who.kind Separate) (asks seat.who.kind Search) r) [
    | inl p ↦ asked Separate (behind Separate (Contains-append_right (Propagate ∷ []) (Separate ∷ Search ∷ asks_for_split proposed end) Separate (contains_here Separate (Search ∷ asks_for_split proposed end)))) p
    | inr p ↦ asked Search (behind Search (Contains-append_right (Propagate ∷ Separate ∷ []) (Search ∷ asks_for_split proposed end) Search (contains_here Search (asks_for_split proposed end)))) p
  ]
]
  where
    behind : (ask : Ask) → Contains (asks_in_pass ++ asks_for_split proposed end) ask → Contains (asks_until number proposed end) ask
    behind ask c = Contains-append_right (OnEvent (event_at number NodeFocused) ∷ []) (asks_in_pass ++ asks_for_split proposed end) ask c

    asked : (ask : Ask) → Contains (asks_until number proposed end) ask → is_wanted ask seat ≡ true → 1 ≤ length (asks_in calls)
    asked ask c wanted =
        some_there (asks_in calls) ask (All-contains (λ other. is_wanted other seat ≡ true → Contains (asks_in calls) other) (asks_until number proposed end) ask served.asked c wanted)

pub used_served : (number : ℕ) (proposed : Bool) (end : NodeEnd) (a b : State) (h m : List (ℕ × Judged)) → IsUsedAt number proposed end a h b m → Ran a b → HasServed (splits_by end) a b
used_served number proposed (by.Split low high) a b h m used ran = record {
  steps = used.steps;
  run = used.run;
  each = λ id s u at now on w.
      worker_asked number proposed (by.Split low high) s (calls_of id used.steps) _ _ (used.each id s u at now on) w;
}
used_served number proposed by.Pruned a b h m used ran = served_run a b ran
used_served number proposed by.Empty a b h m used ran = served_run a b ran
used_served number proposed by.Solved a b h m used ran = served_run a b ran
used_served number proposed (by.Parked leaf on bound shown) a b h m used ran = served_run a b ran
used_served number proposed (by.Ray point ray) a b h m used ran = served_run a b ran

-- ---- the log

one_more : (old new : List Entry) (entry : Entry) → new ≡ old ++ entry ∷ [] → splits_in new ≡ splits_in old + split_count entry.end
one_more old new entry e =
    let f : Entry → ℕ = λ entry. split_count entry.end in
    let last = sum_by-cons f entry [] in
    let both = sum_by-append f old (entry ∷ []) in
    let all = ap splits_in e in
    omega (arith, last, both, all)

pub splits_more : (mid new : CoreState) (ended : Node) (mark : Option Mark) (end : NodeEnd) → IsWorkedEnd mid new ended mark end → splits_in new.tree.log ≡ splits_in mid.tree.log + splits_by end
splits_more mid new ended mark by.Pruned h = one_more mid.tree.log new.tree.log (record { node = ended.number; bound = ended.bound; end = Closed }) h.entry.logged
splits_more mid new ended mark by.Empty h = one_more mid.tree.log new.tree.log (record { node = ended.number; bound = ended.bound; end = Closed }) h.entry.logged
splits_more mid new ended mark by.Solved h = one_more mid.tree.log new.tree.log (record { node = ended.number; bound = ended.bound; end = Closed }) h.entry.logged
splits_more mid new ended mark (by.Split low high) h = one_more mid.tree.log new.tree.log (record { node = ended.number; bound = ended.bound; end = Split h.column h.at low high }) h.entry.logged
splits_more mid new ended mark (by.Parked leaf on bound shown) h = one_more mid.tree.log new.tree.log (record { node = ended.number; bound = ended.bound; end = Parked }) h.entry.logged
splits_more mid new ended mark (by.Ray point ray) h = one_more mid.tree.log new.tree.log (record { node = ended.number; bound = ended.bound; end = Parked }) h.entry.logged
