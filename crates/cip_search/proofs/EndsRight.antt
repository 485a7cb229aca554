-- The end of a search, part by part.
use Rattle.std.proofs.Common.{◌≡◌, ◌≢◌, inl, inr, ℕ, false, List, [], ◌∷◌, ◌++◌, Option, None, Some, IfSome, refl, sym, ap, ◌∙◌, subst, true≢false}
use Rattle.std.specs.Prelude.{IsSome}
use Rattle.std.proofs.lemmas.List.Elements.{Contains-append_cases}
use Rattle.cip_rational.specs.Rational.{ℚ, ◌<ℚ◌}
use Rattle.cip_rational.proofs.Rational.Order.{≤ℚ_antisymm, le_of_lt_test}
use Rattle.cip_problem.specs.Program.{Program}
use Rattle.cip_problem.specs.Points.{IsFeasible, cost_of, IsLowerBound}
use Rattle.cip_problem.specs.Log.{Node, matters}
use Rattle.cip_problem.proofs.Covers.{none_of_nothing}
use Rattle.cip_search.specs.Leaf.{Leaf}
use Rattle.cip_search.specs.Searched.{OpenMatters, ParkedMatters, NoMore, IsLeast, IsCovered, AreTrueEntries}
use Rattle.cip_search.proofs.Covers.{bound_holds}
use Rattle.cip_search.specs.WideLeaf.{Shown, IsWideLeaf}
use Rattle.cip_search.specs.SearchState.{State, stay, unended, all_nodes, IsSearch, IsAsGiven}
use Rattle.cip_search.specs.Endings.{OneMatters, NoneMatters, HasWidePoint, IsLeastBound}
use Rattle.cip_search.proofs.Logs.{is_log, true_entries, covered, least, open_matter, parked_matter}
use Rattle.cip_search.proofs.Told.{no_point, wide}
use Rattle.cip_search.specs.SearchEnds.{Ended, Optimal, Infeasible, Unbounded, NodeLimit, Gap, Wide, NoMemory, Held, Answer, cost_of_held, EndsAs, Agrees, IsCheaper, IsSettled, EndHolds, IsShownLeaf}
use Rattle.cip_search.proofs.ShownNode.{shown_leaf}
use Rattle.cip_search.specs.EndLaws.{ComesTo, IsAnswerOf, EndsAreRight}

-- ---- what matters

none_one : (held : Option ℚ) (nodes : List Node) → NoneMatters held nodes → ¬ OneMatters held nodes
none_one held nodes n o = true≢false (sym o.matter ∙ n o.node o.among)

none_all : (held : Option ℚ) (first second : List Node) → NoneMatters held first → NoneMatters held second → NoneMatters held (first ++ second)
none_all held first second n m node c = elim (Contains-append_cases first second node c) [
  | inl a ↦ n node a
  | inr b ↦ m node b
]

-- a bound that isn't below the cost held, and isn't above it, is the cost
is_cost : (cost : ℚ) (bound : Option ℚ) → matters (Some cost) bound ≡ false → NoMore bound (Some cost) → bound ≡ Some cost
is_cost cost None m l = absurd (true≢false m)
is_cost cost (Some b) m l = ap Some (≤ℚ_antisymm l (le_of_lt_test m))

least_is_cost : (held : Option ℚ) (cost : ℚ) (nodes : List Node) (bound : Option ℚ) → held ≡ Some cost → NoneMatters held nodes → IsLeastBound held nodes bound → bound ≡ Some cost
least_is_cost held cost nodes bound e n h = elim h.one [
  | inl c ↦ c.is_bound ∙ (sym c.is_held ∙ e)
  | inr b ↦ is_cost cost bound (ap (λ t. matters t bound) (sym e) ∙ (ap (matters held) b.is_bound ∙ n b.node b.among)) (h.cost cost e)
]

held_there : (held : Option Held) → IsSome (cost_of_held held) → (h : Held) × (held ≡ Some h)
held_there None s = absurd (cc)
held_there (Some h) s = (h, refl)

none_there : (held : Option Held) → cost_of_held held ≡ None → held ≡ None
none_there None e = refl
none_there (Some h) e = absurd (cc)

some_there : (held : Option Held) → IsSome (cost_of_held held) → IsSome held
some_there None s = s
some_there (Some h) s = refl

cheaper_there : (program : Program) (held : Option Held) (point : List ℚ) → IsCheaper program held point → IfSome (cost_of_held held) (λ cost. cost_of program point <ℚ cost)
cheaper_there program None point h = tt
cheaper_there program (Some held) point h = h

module _ (program : Program) (start : Option ℚ) (nodes : ℕ) (asked : Option ℚ) (state : State) (answer : Answer) (s : IsSearch program program stay IsWideLeaf start state) (g : IsAsGiven program start state) (a : IsAnswerOf program program nodes asked state answer) where
  idle_nodes : unended state ≡ state.open_
  idle_nodes = ap (λ w. w ++ state.open_) a.idle

  quiet_open : NoneMatters state.held state.open_ → ¬ OpenMatters program start state.log (cost_of_held answer.held)
  quiet_open n o = none_one state.held state.open_ n ((open_matter program program stay IsWideLeaf start state s g a.idle).1 (subst (λ h. OpenMatters program start state.log h) (sym a.held) o))

  quiet_parked : NoneMatters state.held state.parked → ¬ ParkedMatters state.log (cost_of_held answer.held)
  quiet_parked n o = none_one state.held state.parked n ((parked_matter program program stay IsWideLeaf start state s).1 (subst (λ h. ParkedMatters state.log h) (sym a.held) o))

  loud_open : OneMatters state.held state.open_ → OpenMatters program start state.log (cost_of_held answer.held)
  loud_open o = subst (λ h. OpenMatters program start state.log h) a.held ((open_matter program program stay IsWideLeaf start state s g a.idle).0 o)

  loud_parked : OneMatters state.held state.parked → ParkedMatters state.log (cost_of_held answer.held)
  loud_parked o = subst (λ h. ParkedMatters state.log h) a.held ((parked_matter program program stay IsWideLeaf start state s).0 o)

  least_there : answer.ended ≢ Infeasible → IsLeast program start state.log (cost_of_held answer.held) answer.bound
  least_there n = subst (λ h. IsLeast program start state.log h answer.bound) a.held (least program program stay IsWideLeaf start state answer.bound s g a.idle (a.least n))

  cover_there : IsCovered program start state.log (cost_of_held answer.held)
  cover_there = subst (λ h. IsCovered program start state.log h) a.held (covered program program stay IsWideLeaf start state s)

  bound_below : (bound : Option ℚ) → IsLeast program start state.log (cost_of_held answer.held) bound → IfSome bound (IsLowerBound program)
  bound_below None l = tt
  bound_below (Some b) l = bound_holds program start state.log (cost_of_held answer.held) b cover_there l

  no_bound_below : (bound : Option ℚ) → bound ≡ None → IfSome bound (IsLowerBound program)
  no_bound_below None e = tt
  no_bound_below (Some b) e = absurd (cc)

  -- nothing that is left over matters where all are quiet
  all_quiet : NoneMatters state.held state.open_ → NoneMatters state.held state.parked → NoneMatters state.held (all_nodes state)
  all_quiet n m = none_all state.held (unended state) state.parked (subst (NoneMatters state.held) (sym idle_nodes) n) m

  empty_parts : (first second third : List Node) → (first ++ second) ++ third ≡ [] → (second ≡ []) × (third ≡ [])
  empty_parts [] [] [] e = (refl, refl)
  empty_parts [] [] (n ∷ ns) e = absurd (cc)
  empty_parts [] (n ∷ ns) third e = absurd (cc)
  empty_parts (n ∷ ns) second third e = absurd (cc)

  empty_list : (list : List Node) → list ≡ [] → NoneMatters state.held list
  empty_list [] e node c = absurd (none_of_nothing node c)
  empty_list (n ∷ ns) e node c = absurd (cc)

  bound_of : (ended : Ended) → answer.ended ≡ ended → IfSome answer.bound (IsLowerBound program)
  bound_of Optimal e = bound_below answer.bound (least_there (λ f. absurd (let t = sym e ∙ f in cc)))
  bound_of Infeasible e = no_bound_below answer.bound (a.no_bound e)
  bound_of (Unbounded ray) e = bound_below answer.bound (least_there (λ f. absurd (let t = sym e ∙ f in cc)))
  bound_of NodeLimit e = bound_below answer.bound (least_there (λ f. absurd (let t = sym e ∙ f in cc)))
  bound_of Gap e = bound_below answer.bound (least_there (λ f. absurd (let t = sym e ∙ f in cc)))
  bound_of (Wide leaf shown) e = bound_below answer.bound (least_there (λ f. absurd (let t = sym e ∙ f in cc)))
  bound_of NoMemory e = bound_below answer.bound (least_there (λ f. absurd (let t = sym e ∙ f in cc)))

  ends_as : (ended : Ended) → ComesTo program program nodes state ended → EndsAs program start nodes state.log answer.held ended
  ends_as Optimal c = (record { none_open = quiet_open c.0; none_parked = quiet_parked c.1 }, some_there answer.held (subst IsSome a.held c.2))
  ends_as Infeasible c =
      let parts = empty_parts state.work state.open_ state.parked c.0 in
      (inl (record { none_open = quiet_open (empty_list state.open_ parts.0); none_parked = quiet_parked (empty_list state.parked parts.1) }), none_there answer.held (sym a.held ∙ c.1))
  ends_as (Unbounded ray) c = absurd c
  ends_as NodeLimit c = (c.0, loud_open c.1)
  ends_as Gap c = some_there answer.held (subst IsSome a.held c)
  ends_as (Wide leaf shown) c = (quiet_open c.0, loud_parked c.1, subst (λ h. IsShownLeaf program start state.log h leaf shown) a.held (shown_leaf program start state s leaf shown c.2))
  ends_as NoMemory c = tt

  agrees : answer.ended ≡ Optimal → Agrees answer
  agrees e =
      let c : ComesTo program program nodes state Optimal = subst (ComesTo program program nodes state) e a.comes in
      let h = held_there answer.held (subst IsSome a.held c.2) in
      let cost : state.held ≡ Some h.0.cost = a.held ∙ ap cost_of_held h.1 in
      record { held = h.0; is_held = h.1; bound = least_is_cost state.held h.0.cost (all_nodes state) answer.bound cost (all_quiet c.0 c.1) (a.least (λ f. absurd (let t = sym e ∙ f in cc))) }

  wide_points : (leaf : Leaf) (shown : Shown) → answer.ended ≡ Wide leaf shown → (point : List ℚ) → IsFeasible program point → IsCheaper program answer.held point → HasWidePoint program IsWideLeaf (cost_of program point)
  wide_points leaf shown e point f h =
      let c : ComesTo program program nodes state (Wide leaf shown) = subst (ComesTo program program nodes state) e a.comes in
      wide program program stay IsWideLeaf start state point s (subst (NoneMatters state.held) (sym idle_nodes) c.0) f
      (subst (λ t. IfSome t (λ cost. cost_of program point <ℚ cost)) (sym a.held) (cheaper_there program answer.held point h))

  infeasible_is : answer.ended ≡ Infeasible → (point : List ℚ) → ¬ IsFeasible program point
  infeasible_is e =
      let c : ComesTo program program nodes state Infeasible = subst (ComesTo program program nodes state) e a.comes in
      no_point program program stay IsWideLeaf start state s c.1 c.0

  settled : IsSettled program start nodes asked state.log answer
  settled = record {
    least = least_there;
    no_bound = a.no_bound;
    bound = bound_of answer.ended refl;
    infeasible = infeasible_is;
    agree = agrees;
    wide = wide_points;
    ends = ends_as answer.ended a.comes;
    gap = a.gap;
    cover = cover_there;
    entries = subst (AreTrueEntries program IsWideLeaf start state.log) a.held (true_entries program IsWideLeaf start state s);
  }

  end_holds : (ended : Ended) → ComesTo program program nodes state ended → EndHolds program start nodes asked state.log answer ended
  end_holds Optimal c = settled
  end_holds Infeasible c = settled
  end_holds (Unbounded ray) c = absurd c
  end_holds NodeLimit c = settled
  end_holds Gap c = settled
  end_holds (Wide leaf shown) c = settled
  end_holds NoMemory c = settled

pub ends_are_right : EndsAreRight
ends_are_right program start nodes asked state answer s g a = record {
  point = a.point;
  end_ = end_holds program start nodes asked state answer s g a answer.ended a.comes;
  logged = is_log program program stay IsWideLeaf start state s;
}
