-- The answers of a search are right.
use Rattle.std.proofs.Common.{◌≡◌, ◌≢◌, ◌↔◌, inl, inr, ℕ, Bool, true, false, List, [], Option, None, Some, IfSome, refl, sym, ap, ◌∙◌, subst, if◌then◌else◌}
use Rattle.std.specs.Prelude.{option_map}
use Rattle.cip_rational.specs.Rational.{ℚ, ◌≤ℚ◌}
use Rattle.cip_rational.proofs.Rational.Order.{≤ℚ_antisymm}
use Rattle.cip_problem.specs.Program.{Program}
use Rattle.cip_problem.specs.Points.{IsLowerBound, cost_of}
use Rattle.cip_problem.specs.Log.{Entry, Node}
use Rattle.cip_problem.specs.Improving.{IsNoDearer}
use Rattle.cip_problem.proofs.Improving.{holds_later}
use Rattle.cip_search.specs.Searched.{NoMore, IsOneOf, IsLeast, IsCovered, HasPointOfLeaf, HasWideLeaf, AreTrueEntries}
use Rattle.cip_search.proofs.Covers.{bound_holds}
use Rattle.cip_search.specs.WideLeaf.{IsWideLeaf}
use Rattle.cip_incumbent.specs.HeldPoint.{HeldPoint, HoldsPointOf}
use Rattle.cip_search.specs.SearchState.{State, WayBack, stay, all_nodes, IsSearch, IsAsGiven}
use Rattle.cip_search.specs.Endings.{IsLeastBound}
use Rattle.cip_search.proofs.Bounds.{there_later, no_more_same}
use Rattle.cip_search.proofs.Logs as logs
use Rattle.cip_search.proofs.Logs.{true_entries}
use Rattle.cip_search.specs.SearchEnds as ends
use Rattle.cip_search.specs.SearchEnds.{IsAnswer}
use Rattle.cip_search.specs.EndLaws.{ComesTo}
use Rattle.cip_search.proofs.EndsRight.{ends_are_right}
use Rattle.cip_endings.specs.Held.{Held}
use Rattle.cip_search.specs.SeenLogs.{log_seen, state_seen}
use Rattle.cip_search.proofs.Roots.{no_more}
use Rattle.cip_endings.specs.AnswerOf.{held_of}
use Rattle.cip_endings.specs.LeastBounds.{is_no_more, capped}
use Rattle.cip_solve.specs.Stopping.{WasLeast, BestIs}
use Rattle.cip_endings.proofs.BoundLaws.{no_more_tells, more_below}
use Rattle.cip_solve.specs.Searching.{CanBeSeen}
use Rattle.cip_solve.proofs.SeenLaws.{search_law, seen_idle, seen_least}

-- ---- the point

abbrev pub cost_of_best : Option HeldPoint → Option ℚ
cost_of_best best = option_map (λ h. h.cost) best

pub same_cost : (best : Option HeldPoint) (held : Option Held) → BestIs best held → cost_of_best best ≡ ends.cost_of_held (option_map held_of held)
same_cost best None e = ap cost_of_best e
same_cost best (Some held) e = ap cost_of_best e

pub is_point : (program : Program) (columns : ℕ) (best : Option HeldPoint) (held : Option Held) → HoldsPointOf program (record { columns = columns; best = best }) → BestIs best held → IfSome (option_map held_of held) (ends.IsHeldPoint program)
is_point program columns best None h e = tt
is_point program columns best (Some held) h e =
    let k = subst (λ b. HoldsPointOf program (record { columns = columns; best = b })) e h in
    record { feasible = k.feasible; cost = k.cost }

-- ---- refused memory

-- a bound was the least by a log, and the entries were true, beside a cost held before
pub record WasLeastOf (program : Program) (start : Option ℚ) (log : List Entry) (held bound : Option ℚ) : Type 0 where
  pub before : Option ℚ
  pub no_dearer : IsNoDearer held before
  pub least : IsLeast program start log before bound
  pub entries : AreTrueEntries program IsWideLeaf start log before

still_wide : (program : Program) (now before : Option ℚ) (node : Node) → IsNoDearer now before → HasWideLeaf program IsWideLeaf before node → HasWideLeaf program IsWideLeaf now node
still_wide program now before node d w = record {
  leaf = w.leaf;
  is_leaf = w.is_leaf;
  leads = holds_later program now before node.box (λ point. HasPointOfLeaf program w.leaf (cost_of program point)) d w.leads;
  wide = w.wide;
}

module _ (program : Program) (start : Option ℚ) (log : List Entry) where
  earlier_true : (now before : Option ℚ) → IsNoDearer now before → AreTrueEntries program IsWideLeaf start log before → AreTrueEntries program IsWideLeaf start log now
  earlier_true now before d t entry node c e =
      let k = t entry node c e in
      record {
        kept = k.kept;
        holds = there_later program now before entry.bound node.box d k.holds;
        parked = λ p. still_wide program now before node d (k.parked p);
      }

  -- beside a cost held that has fallen the least bound is the lesser of that and the one before
  still_one : (now before bound : Option ℚ) → IsOneOf program start log before bound → (cost : ℚ) → now ≡ Some cost → ((c : ℚ) → before ≡ Some c → bound ≡ Some c → bound ≡ Some cost) → IsOneOf program start log now bound
  still_one now before bound (inl c) cost e f = inl (record { cost = cost; is_held = e; is_bound = f c.cost c.is_held c.is_bound })
  still_one now before bound (inr o) cost e f = inr o

  same_by : (now before bound : Option ℚ) (cost : ℚ) → now ≡ Some cost → IsNoDearer now before → NoMore bound (Some cost) → (c : ℚ) → before ≡ Some c → bound ≡ Some c → bound ≡ Some cost
  same_by now before bound cost e d n c f g =
      let below : cost ≤ℚ c = subst (λ t. IsNoDearer t (Some c)) e (subst (IsNoDearer now) f d) in
      let above : c ≤ℚ cost = subst (λ t. NoMore t (Some cost)) g n in
      g ∙ ap Some (≤ℚ_antisymm above below)

  others_least : (now before bound : Option ℚ) (cost : ℚ) → now ≡ Some cost → IsLeast program start log before bound → NoMore bound (Some cost) → (other : Option ℚ) → IsOneOf program start log now other → NoMore bound other
  others_least now before bound cost e l n other (inl c) = subst (NoMore bound) (sym e ∙ (c.is_held ∙ sym c.is_bound)) n
  others_least now before bound cost e l n other (inr o) = l.least other (inr o)

  others_cost : (now before bound : Option ℚ) (cost : ℚ) → now ≡ Some cost → IsLeast program start log before bound → NoMore (Some cost) bound → (other : Option ℚ) → IsOneOf program start log now other → NoMore (Some cost) other
  others_cost now before bound cost e l n other (inl c) = no_more_same (Some cost) other (sym e ∙ (c.is_held ∙ sym c.is_bound))
  others_cost now before bound cost e l n other (inr o) = no_more (Some cost) bound other n (l.least other (inr o))

  capped_by : (before bound : Option ℚ) (cost : ℚ) (test : Bool) → is_no_more bound (Some cost) ≡ test → IsNoDearer (Some cost) before → IsLeast program start log before bound → IsLeast program start log (Some cost) (if test then bound else Some cost)
  capped_by before bound cost true t d l =
      let n = no_more_tells bound (Some cost) t in
      record {
        one = still_one (Some cost) before bound l.one cost refl (same_by (Some cost) before bound cost refl d n);
        least = others_least (Some cost) before bound cost refl l n;
      }
  capped_by before bound cost false t d l = record {
    one = inl (record { cost = cost; is_held = refl; is_bound = refl });
    least = others_cost (Some cost) before bound cost refl l (more_below bound (Some cost) t);
  }

  pub capped_least : (now before bound : Option ℚ) → IsNoDearer now before → IsLeast program start log before bound → IsLeast program start log now (capped now bound)
  capped_least None None bound d l = l
  capped_least None (Some before) bound d l = absurd d
  capped_least (Some cost) before bound d l = capped_by before bound cost (is_no_more bound (Some cost)) refl d l

module _ (program : Program) (start : Option ℚ) (nodes : ℕ) (asked : Option ℚ) (state : State) (s : IsSearch program program stay IsWideLeaf start state) where
  cover_there : (held : Option ends.Held) → state.held ≡ ends.cost_of_held held → IsCovered program start state.log (ends.cost_of_held held)
  cover_there held e = subst (λ h. IsCovered program start state.log h) e (logs.covered program program stay IsWideLeaf start state s)

  bound_below : (held : Option ends.Held) (bound : Option ℚ) → state.held ≡ ends.cost_of_held held → IsLeast program start state.log (ends.cost_of_held held) bound → IfSome bound (IsLowerBound program)
  bound_below held None e l = tt
  bound_below held (Some b) e l = bound_holds program start state.log (ends.cost_of_held held) b (cover_there held e) l

  -- where memory was refused
  pub refused_itself : (held : Option ends.Held) (bound : Option ℚ) → state.held ≡ ends.cost_of_held held → IfSome held (ends.IsHeldPoint program) → WasLeastOf program start state.log state.held bound → IsAnswer program start nodes asked state.log (record { ended = ends.NoMemory; held = held; bound = capped (ends.cost_of_held held) bound })
  refused_itself held bound e p was =
      let d : IsNoDearer (ends.cost_of_held held) was.before = subst (λ h. IsNoDearer h was.before) e was.no_dearer in
      let l = capped_least program start state.log (ends.cost_of_held held) was.before bound d was.least in
      record {
        point = p;
        end_ = record {
          least = λ f. l;
          no_bound = λ f. absurd (cc);
          bound = bound_below held (capped (ends.cost_of_held held) bound) e l;
          infeasible = λ f. absurd (cc);
          agree = λ f. absurd (cc);
          wide = λ leaf shown f. absurd (cc);
          ends = tt;
          gap = λ f. absurd (f refl);
          cover = cover_there held e;
          entries = earlier_true program start state.log (ends.cost_of_held held) was.before d was.entries;
        };
        logged = logs.is_log program program stay IsWideLeaf start state s;
      }

-- ---- a search of a reduced program, as it is seen in the program as read

module _ (program reduced : Program) (way : WayBack) (kept : ℕ → ℕ) (start : Option ℚ) (c : CanBeSeen program reduced kept) where
  was_least_seen : (log : List Entry) (held bound : Option ℚ) → WasLeast program reduced way start log held bound → WasLeastOf program start (log_seen kept log) held bound
  was_least_seen log held bound was =
      let state = state_seen program start kept was.before in
      let s = search_law program reduced kept start c way was.before was.searched in
      let l = logs.least program program stay IsWideLeaf start state bound s.searched (s.as_given was.as_given) (seen_idle program start kept was.before was.idle) (seen_least program start kept was.before bound was.least) in
      record {
        before = was.before.held;
        no_dearer = was.no_dearer;
        least = subst (λ t. IsLeast program start (log_seen kept t) was.before.held bound) was.logged l;
        entries = subst (λ t. AreTrueEntries program IsWideLeaf start (log_seen kept t) was.before.held) was.logged (true_entries program IsWideLeaf start state s.searched);
      }

  module _ (nodes : ℕ) (asked : Option ℚ) (state : State) (s : IsSearch program reduced way IsWideLeaf start state) where
    -- where memory was refused
    pub refused_is_right : (held : Option ends.Held) (bound : Option ℚ) → state.held ≡ ends.cost_of_held held → IfSome held (ends.IsHeldPoint program) → WasLeast program reduced way start state.log state.held bound → IsAnswer program start nodes asked (log_seen kept state.log) (record { ended = ends.NoMemory; held = held; bound = capped (ends.cost_of_held held) bound })
    refused_is_right held bound e p was =
        refused_itself program start nodes asked (state_seen program start kept state) (search_law program reduced kept start c way state s).searched held bound e p (was_least_seen state.log state.held bound was)

    -- where it stands still
    pub still_is_right : (held : Option ends.Held) (bound : Option ℚ) (ended : ends.Ended) → IsAsGiven reduced start state → state.work ≡ [] → state.held ≡ ends.cost_of_held held → IfSome held (ends.IsHeldPoint program) → ComesTo program reduced nodes state ended → (ended ≢ ends.Infeasible → IsLeastBound state.held (all_nodes state) bound) → (ended ≡ ends.Infeasible → bound ≡ None) → (ended ≢ ends.NoMemory → (ended ≡ ends.Gap) ↔ ends.ReachesGap asked (ends.cost_of_held held) bound) → IsAnswer program start nodes asked (log_seen kept state.log) (record { ended = ended; held = held; bound = bound })
    still_is_right held bound ended g idle e p comes least none gap =
        let answer : ends.Answer = record { ended = ended; held = held; bound = bound } in
        let k = search_law program reduced kept start c way state s in
        ends_are_right program start nodes asked (state_seen program start kept state) answer k.searched (k.as_given g)
        (k.answers nodes asked answer (record { idle = idle; held = e; point = p; comes = comes; least = least; no_bound = none; gap = gap }))
