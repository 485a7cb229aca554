-- The least bound of what is left, with an open node or a point held.
use Rattle.std.proofs.Common.{◌≡◌, ◌≢◌, true, IsSome, true≢false, List, [], ◌∷◌, ◌++◌, Option, None, Some, MatchOption, refl, sym, subst}
use Rattle.cip_rational.specs.Rational.{ℚ}
use Rattle.cip_problem.specs.Program.{Program}
use Rattle.cip_problem.specs.Log.{Entry, Node}
use Rattle.cip_incumbent.specs.HeldPoint.{Holding}
use Rattle.cip_search.specs.SearchState.{WayBack}
use Rattle.cip_search.specs.Endings.{IsLeastBound}
use Rattle.cip_tree.specs.Moves as tree
use Rattle.cip_tree.specs.Nodes.{Nodes}
use Rattle.cip_solve.specs.KeptNodes.{cost_held}
use Rattle.cip_endings.specs.LeastBounds.{least_of, bound_held, flat}
use Rattle.cip_endings.specs.Gaps.{reaches_gap}
use Rattle.cip_endings.specs.Worst.{IsWorst, worst_bound}
use Rattle.cip_endings.specs.declared.worst.Worst.{Worst}
use Rattle.cip_solve.specs.Searching.{IsStill, ReachesGapAt}
use Rattle.cip_solve.proofs.LeastBounds.{IsLeastAmong}
use Rattle.cip_solve.proofs.ComesTo.{AmongAll, open_least, parked_least, least_of_all, is_least}

-- ---- the least bound beside an open node

some_left : (held : Option ℚ) (waiting : Option ℚ) (worst : Option (Option ℚ)) → least_of (bound_held held) (least_of (Some waiting) worst) ≢ None
some_left None waiting None e = absurd (cc)
some_left None waiting (Some w) e = absurd (cc)
some_left (Some cost) waiting None e = absurd (cc)
some_left (Some cost) waiting (Some w) e = absurd (cc)

pub flat_least : (held : Option ℚ) (open_ parked : List Node) (all : Option (Option ℚ)) → all ≢ None → IsLeastAmong (AmongAll held open_ parked) all → IsLeastBound held (open_ ++ parked) (flat all)
flat_least held open_ parked None n l = absurd (n refl)
flat_least held open_ parked (Some bound) n l = is_least held open_ parked bound l

pub waiting_least : (program reduced : Program) (way : WayBack) (tree_ : Nodes) (held : Option ℚ) (worst : Option Worst) (waiting : Option (Option ℚ)) → MatchOption waiting (tree_.open_ ≡ []) (λ b. tree.IsLeastBound b tree_.open_) → waiting ≢ None → IsWorst program reduced way tree_.parked worst → IsLeastBound held (tree_.open_ ++ tree_.parked) (flat (least_of (bound_held held) (least_of waiting (worst_bound worst))))
waiting_least program reduced way tree_ held worst None m n w = absurd (n refl)
waiting_least program reduced way tree_ held worst (Some b) m n w =
    flat_least held tree_.open_ tree_.parked (least_of (bound_held held) (least_of (Some b) (worst_bound worst))) (some_left held b (worst_bound worst))
    (least_of_all held tree_.open_ tree_.parked (Some b) (worst_bound worst) (open_least tree_.open_ (Some b) m) (parked_least program reduced way tree_.parked worst w))

-- ---- the gap that was asked for is reached

-- then a point is held
pub held_there : (asked held bound : Option ℚ) → reaches_gap asked held bound ≡ true → held ≢ None
held_there None held bound e f = absurd (true≢false (sym e))
held_there (Some gap) None bound e f = absurd (true≢false (sym e))
held_there (Some gap) (Some cost) bound e f = absurd (cc)

pub some_held : (held : Option ℚ) → held ≢ None → IsSome held
some_held None n = absurd (n refl)
some_held (Some cost) n = refl

held_left : (held : Option ℚ) (other : Option (Option ℚ)) → held ≢ None → least_of (bound_held held) other ≢ None
held_left None other n e = n refl
held_left (Some cost) None n e = absurd (cc)
held_left (Some cost) (Some bound) n e = absurd (cc)

pub least_there : (program reduced : Program) (way : WayBack) (tree_ : Nodes) (holding : Holding) (worst : Option Worst) (waiting : Option (Option ℚ)) (bound : Option ℚ) → cost_held holding ≢ None → IsWorst program reduced way tree_.parked worst → MatchOption waiting (tree_.open_ ≡ []) (λ b. tree.IsLeastBound b tree_.open_) → bound ≡ flat (least_of (bound_held (cost_held holding)) (least_of waiting (worst_bound worst))) → IsLeastBound (cost_held holding) (tree_.open_ ++ tree_.parked) bound
least_there program reduced way tree_ holding worst waiting bound n w m e =
    let held = cost_held holding in
    let others = least_of waiting (worst_bound worst) in
    subst (IsLeastBound held (tree_.open_ ++ tree_.parked)) (sym e)
    (flat_least held tree_.open_ tree_.parked (least_of (bound_held held) others) (held_left held others n)
    (least_of_all held tree_.open_ tree_.parked waiting (worst_bound worst) (open_least tree_.open_ waiting m) (parked_least program reduced way tree_.parked worst w)))

pub near_there : (program reduced : Program) (way : WayBack) (start : Option ℚ) (asked : Option ℚ) (tree_ : Nodes) (holding : Holding) (worst : Option Worst) (waiting : Option (Option ℚ)) (bound : Option ℚ) → IsStill program reduced way start tree_ holding worst → MatchOption waiting (tree_.open_ ≡ []) (λ b. tree.IsLeastBound b tree_.open_) → bound ≡ flat (least_of (bound_held (cost_held holding)) (least_of waiting (worst_bound worst))) → reaches_gap asked (cost_held holding) bound ≡ true → ReachesGapAt asked tree_ holding
near_there program reduced way start asked tree_ holding worst waiting bound k m e t = record {
  bound = bound;
  least = least_there program reduced way tree_ holding worst waiting bound (held_there asked (cost_held holding) bound t) k.is_worst m e;
  reached = t;
}

-- ---- logs

pub not_empty : (log : List Entry) (entry : Entry) → log ++ entry ∷ [] ≢ []
not_empty [] entry e = absurd (cc)
not_empty (x ∷ log) entry e = absurd (cc)
