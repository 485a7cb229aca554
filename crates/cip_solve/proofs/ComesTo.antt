-- What is left of a search, and the end to which it comes.
use Rattle.std.proofs.Common.{◌≡◌, ◌≢◌, ◌⊎◌, inl, inr, ℕ, true, false, List, [], ◌∷◌, ◌++◌, length, Option, None, Some, MatchOption, All, refl, sym, ap, ◌∙◌, subst, true≢false}
use Rattle.std.specs.List.{Contains}
use Rattle.std.proofs.lemmas.List.Elements.{All-contains, Contains-append_cases, Contains-append_left, Contains-append_right}
use Rattle.cip_rational.specs.Rational.{ℚ}
use Rattle.cip_rational.proofs.Rational.Order.{le_of_lt_test, lt_test_of_le, ≤ℚ_trans}
use Rattle.cip_problem.specs.Program.{Program}
use Rattle.cip_problem.specs.Log.{Node, matters}
use Rattle.cip_problem.proofs.Log.Entering.{contains_here}
use Rattle.cip_problem.proofs.Covers.{none_of_nothing}
use Rattle.cip_search.specs.Leaf.{Leaf}
use Rattle.cip_search.specs.Searched.{NoMore, IsCostHeld}
use Rattle.cip_tree.specs.Bounds.{IsBoundAtMost}
use Rattle.cip_tree.specs.Moves as tree
use Rattle.cip_search.specs.WideLeaf.{IsWideLeaf}
use Rattle.cip_search.specs.SearchState.{State, WayBack, IsSearch}
use Rattle.cip_search.specs.Endings.{OneMatters, NoneMatters, IsBoundOfOne, IsLeastBound}
use Rattle.cip_search.specs.EndLaws.{IsShownNode, ComesTo}
use Rattle.cip_search.proofs.Leading.{shown_node}
use Rattle.cip_solve.specs.Shown.{Shown}
use Rattle.cip_endings.specs.Ended.{Ended}
use Rattle.cip_endings.specs.Ended.TheVariants.{Optimal, Infeasible, Unbounded, NodeLimit, Gap, Wide, NoMemory}
use Rattle.cip_solve.specs.LeafAnswers.{shown_as}
use Rattle.cip_endings.specs.AnswerOf.{ended_of}
use Rattle.cip_endings.specs.LeastBounds.{least_of, bound_held}
use Rattle.cip_endings.specs.Ends.{one_matters, IsShownWorst, EndsBy}
use Rattle.cip_endings.specs.Worst.{leaf_of, IsFirstWorst, IsWorst, worst_bound}
use Rattle.cip_endings.specs.declared.worst.Worst.{Worst}
use Rattle.cip_solve.proofs.LeastBounds.{IsLeastAmong, least_both, least_held}

-- ---- the least bound of nodes

at_most : (bound other : Option ℚ) → IsBoundAtMost bound other → NoMore bound other
at_most None other h = tt
at_most (Some bound) None h = h
at_most (Some bound) (Some other) h = h

nothing_among : (nodes : List Node) → nodes ≡ [] → (other : Option ℚ) → ¬ IsBoundOfOne nodes other
nothing_among nodes e other b = none_of_nothing b.node (subst (λ l. Contains l b.node) e b.among)

-- the tree's own word for it
pub open_least : (nodes : List Node) (bound : Option (Option ℚ)) → MatchOption bound (nodes ≡ []) (λ b. tree.IsLeastBound b nodes) → IsLeastAmong (IsBoundOfOne nodes) bound
open_least nodes None h = nothing_among nodes h
open_least nodes (Some bound) h = (
  record { node = h.node; among = h.among; is_bound = h.is },
  λ other b. subst (NoMore bound) (sym b.is_bound) (at_most bound b.node.bound (all_at bound nodes h.least b.node b.among)),
)
  where
    all_at : (bound : Option ℚ) (nodes : List Node) → All (λ other. IsBoundAtMost bound other.bound) nodes → (node : Node) → Contains nodes node → IsBoundAtMost bound node.bound
    all_at bound nodes h node c = All-contains (λ other. IsBoundAtMost bound other.bound) nodes node h c

-- the worst parked leaf has the least
module _ (program reduced : Program) (way : WayBack) where
  among_parked : (parked : List Node) (worst : Worst) → IsFirstWorst program reduced way parked (leaf_of worst) worst.bound (shown_as worst.shown) → IsLeastAmong (IsBoundOfOne parked) (Some worst.bound)
  among_parked parked worst w = (
    record {
      node = w.node;
      among = subst (λ l. Contains l w.node) (sym w.chosen.placed) (Contains-append_right w.chosen.before (w.node ∷ w.chosen.after) w.node (contains_here w.node w.chosen.after));
      is_bound = sym w.is_bound;
    },
    λ other b. subst (NoMore worst.bound) (sym b.is_bound) (subst (λ t. NoMore t b.node.bound) w.is_bound (w.chosen.least b.node b.among)),
  )

  pub parked_least : (parked : List Node) (worst : Option Worst) → IsWorst program reduced way parked worst → IsLeastAmong (IsBoundOfOne parked) (worst_bound worst)
  parked_least parked None w = nothing_among parked w
  parked_least parked (Some worst) w = among_parked parked worst w

-- ---- the least bound of all

abbrev pub AmongAll : Option ℚ → List Node → List Node → Option ℚ → Type 0
AmongAll held open_ parked other = IsCostHeld held other ⊎ (IsBoundOfOne open_ other ⊎ IsBoundOfOne parked other)

of_both : (held : Option ℚ) (open_ parked : List Node) (other : Option ℚ) → AmongAll held open_ parked other → IsCostHeld held other ⊎ IsBoundOfOne (open_ ++ parked) other
of_both held open_ parked other (inl c) = inl c
of_both held open_ parked other (inr (inl b)) = inr (record { node = b.node; among = Contains-append_left open_ parked b.node b.among; is_bound = b.is_bound })
of_both held open_ parked other (inr (inr b)) = inr (record { node = b.node; among = Contains-append_right open_ parked b.node b.among; is_bound = b.is_bound })

pub is_least : (held : Option ℚ) (open_ parked : List Node) (bound : Option ℚ) → IsLeastAmong (AmongAll held open_ parked) (Some bound) → IsLeastBound held (open_ ++ parked) bound
is_least held open_ parked bound h = record {
  one = of_both held open_ parked bound h.0;
  cost = λ cost e. h.1 (Some cost) (inl (record { cost = cost; is_held = e; is_bound = refl }));
  each = λ node c. elim (Contains-append_cases open_ parked node c) [
    | inl a ↦ h.1 node.bound (inr (inl (record { node = node; among = a; is_bound = refl })))
    | inr b ↦ h.1 node.bound (inr (inr (record { node = node; among = b; is_bound = refl })))
  ];
}

pub least_of_all : (held : Option ℚ) (open_ parked : List Node) (first second : Option (Option ℚ)) → IsLeastAmong (IsBoundOfOne open_) first → IsLeastAmong (IsBoundOfOne parked) second → IsLeastAmong (AmongAll held open_ parked) (least_of (bound_held held) (least_of first second))
least_of_all held open_ parked first second a b =
    least_both (IsCostHeld held) (λ o. IsBoundOfOne open_ o ⊎ IsBoundOfOne parked o) (bound_held held) (least_of first second) (least_held held)
    (least_both (IsBoundOfOne open_) (IsBoundOfOne parked) first second a b)

-- ---- what matters

quiet_above : (held bound other : Option ℚ) → matters held bound ≡ false → NoMore bound other → matters held other ≡ false
quiet_above None bound other e n = absurd (true≢false e)
quiet_above (Some cost) None other e n = absurd (true≢false e)
quiet_above (Some cost) (Some bound) None e n = absurd n
quiet_above (Some cost) (Some bound) (Some other) e n = lt_test_of_le (≤ℚ_trans (le_of_lt_test e) n)

pub quiet : (held : Option ℚ) (nodes : List Node) (bound : Option (Option ℚ)) → IsLeastAmong (IsBoundOfOne nodes) bound → one_matters held bound ≡ false → NoneMatters held nodes
quiet held nodes None l e node c = absurd (l node.bound (record { node = node; among = c; is_bound = refl }))
quiet held nodes (Some bound) l e node c = quiet_above held bound node.bound e (l.1 node.bound (record { node = node; among = c; is_bound = refl }))

pub loud : (held : Option ℚ) (nodes : List Node) (bound : Option (Option ℚ)) → IsLeastAmong (IsBoundOfOne nodes) bound → one_matters held bound ≡ true → OneMatters held nodes
loud held nodes None l e = absurd (true≢false (sym e))
loud held nodes (Some bound) l e = record { node = l.0.node; among = l.0.among; matter = ap (matters held) (sym l.0.is_bound) ∙ e }

-- with nothing held each node matters
none_left : (held : Option ℚ) (nodes : List Node) → held ≡ None → NoneMatters held nodes → nodes ≡ []
none_left held [] e n = refl
none_left held (node ∷ nodes) e n = absurd (true≢false (ap (λ h. matters h node.bound) (sym e) ∙ n node (contains_here node nodes)))

-- ---- ends

module _ (program reduced : Program) (way : WayBack) (start : Option ℚ) (nodes : ℕ) (state : State) (s : IsSearch program reduced way IsWideLeaf start state) (idle : state.work ≡ []) (open_ : Option (Option ℚ)) (worst : Option Worst) (o : IsLeastAmong (IsBoundOfOne state.open_) open_) (w : IsWorst program reduced way state.parked worst) (spent : state.open_ ≢ [] → length state.log ≡ nodes) where
  p : IsLeastAmong (IsBoundOfOne state.parked) (worst_bound worst)
  p = parked_least program reduced way state.parked worst w

  some_open : OneMatters state.held state.open_ → state.open_ ≢ []
  some_open m e = none_of_nothing m.node (subst (λ l. Contains l m.node) e m.among)

  shown_there : (leaf : Leaf) (shown : Shown) → IsShownWorst state.held worst leaf shown → IsShownNode program reduced state.held state.parked leaf (shown_as shown)
  shown_there leaf shown k =
      let f : IsFirstWorst program reduced way state.parked (leaf_of k.found) k.found.bound (shown_as k.found.shown) = subst (IsWorst program reduced way state.parked) k.is_worst w in
      subst (λ l. IsShownNode program reduced state.held state.parked l (shown_as shown)) (sym k.leaf_is)
      (subst (λ t. IsShownNode program reduced state.held state.parked (leaf_of k.found) (shown_as t)) (sym k.shown_is)
      (shown_node program reduced way start IsWideLeaf state f.node (leaf_of k.found) (shown_as k.found.shown) s f.chosen f.wide))

  worst_loud : (leaf : Leaf) (shown : Shown) → IsShownWorst state.held worst leaf shown → one_matters state.held (worst_bound worst) ≡ true
  worst_loud leaf shown s = ap (λ t. one_matters state.held (worst_bound t)) s.is_worst ∙ s.matter

  pub comes_to : (ended : Ended) → EndsBy state.held open_ worst ended → ComesTo program reduced nodes state (ended_of ended)
  comes_to Optimal h = (quiet state.held state.open_ open_ o h.0, quiet state.held state.parked (worst_bound worst) p h.1, h.2)
  comes_to Infeasible h = (
    subst (λ l. (l ++ state.open_) ++ state.parked ≡ []) (sym idle)
        (subst (λ l. l ++ state.parked ≡ []) (sym (none_left state.held state.open_ h.2 (quiet state.held state.open_ open_ o h.0)))
        (none_left state.held state.parked h.2 (quiet state.held state.parked (worst_bound worst) p h.1))),
    h.2,
  )
  comes_to (Unbounded ray) h = absurd h
  comes_to NodeLimit h =
      let m = loud state.held state.open_ open_ o h in
      (spent (some_open m), m)
  comes_to Gap h = absurd h
  comes_to (Wide leaf on shown) h = (
    quiet state.held state.open_ open_ o h.0,
    loud state.held state.parked (worst_bound worst) p (worst_loud (record { values = leaf.items; on = on.items }) shown h.1),
    shown_there (record { values = leaf.items; on = on.items }) shown h.1,
  )
  comes_to NoMemory h = absurd h
