-- What a search says of the program as read.
use Rattle.std.proofs.Common.{◌≡◌, inl, inr, true, List, [], ◌∷◌, Option, None, Some, IfSome, Contains, sym, subst}
use Rattle.std.proofs.lemmas.Bool.{both_ways}
use Rattle.std.proofs.lemmas.List.Elements.{Contains-append_cases}
use Rattle.cip_rational.specs.Rational.{ℚ, ◌≤ℚ◌, ◌<ℚ◌}
use Rattle.cip_rational.proofs.Rational.Order.{le_or_lt, ≤ℚ_trans}
use Rattle.cip_problem.specs.Program.{Program}
use Rattle.cip_problem.specs.Points.{IsFeasible, cost_of, IsLowerBound}
use Rattle.cip_problem.specs.Box.{IsInBox}
use Rattle.cip_problem.specs.Choices.{AreMade, AreStillOpen, decided, made_on}
use Rattle.cip_problem.specs.Log.{Entry, Node, AllFollow, matters}
use Rattle.cip_problem.specs.Statements.{IsNodeOf}
use Rattle.cip_problem.proofs.Log.Given.{node_of_log}
use Rattle.cip_problem.specs.Improving.{IsImproving}
use Rattle.cip_problem.specs.Cover.{IsInOneOf, IsCover, HasBoundFrom}
use Rattle.cip_problem.specs.Reduced.{HasNoDearer}
use Rattle.cip_problem.proofs.Covers as covers
use Rattle.cip_problem.proofs.Reductions.{reduction_bound, reduction_no_point}
use Rattle.cip_search.specs.Searched.{first_node}
use Rattle.cip_search.specs.SearchState.{State, WayBack, unended, all_nodes, IsGiven, IsSearch}
use Rattle.cip_search.specs.Endings.{NoneMatters, HasWidePoint}
use Rattle.cip_search.proofs.Bounds.{at_point, matters_at}
use Rattle.cip_search.proofs.NearPoints.{still_cheaper}

-- a node with an improving point matters
pub there_matters : (program : Program) (held : Option ℚ) (nodes : List Node) (point : List ℚ) → IsCover program held nodes → IsImproving program held point → (r : IsInOneOf nodes point) → matters held r.node.bound ≡ true
there_matters program held nodes point c i r = matters_at program held r.node.bound point i (at_point program held r.node.bound r.node.box point (c.bounded r.node r.among) i r.within)

none_cheaper : (program : Program) (held : Option ℚ) (nodes : List Node) (cost : ℚ) → held ≡ Some cost → IsCover program held nodes → NoneMatters held nodes → IsLowerBound program cost
none_cheaper program held nodes cost e c n point f = elim (le_or_lt cost (cost_of program point)) [
  | inl l ↦ l
  | inr l ↦
      let i : IsImproving program held point = record { feasible = f; cheaper = subst (λ h. IfSome h (λ cost. cost_of program point <ℚ cost)) (sym e) l } in
      let r = c.reached point i in
      absurd (both_ways (matters held r.node.bound) (n r.node r.among) (there_matters program held nodes point c i r))
]

-- a node that the log gave is one of the program
pub given_node_of : (reduced : Program) (start : Option ℚ) (log : List Entry) (held : Option ℚ) (node : Node) → AllFollow reduced.integral (first_node reduced start ∷ []) [] log → IsGiven reduced start log held node → IsNodeOf reduced node
given_node_of reduced start log held node f g =
    let was = node_of_log reduced start log node.number g.given f g.found in
    record {
      within = λ point h. was.within point (g.holds point h);
      still_open = subst (AreStillOpen reduced.choices) (sym g.choices) was.still_open;
      made = λ m point h.
          subst (λ c. IsInBox (decided reduced (made_on reduced.choices c)).bounds point) (sym g.choices)
          (was.made (subst AreMade g.choices m) point (g.holds point h));
    }

module _ (program reduced : Program) (way : WayBack) (Wide : Program → List ℚ → Type 0) (start : Option ℚ) where
  pub no_reduced_point : (state : State) → IsSearch program reduced way Wide start state → state.held ≡ None → all_nodes state ≡ [] → (point : List ℚ) → ¬ IsFeasible reduced point
  no_reduced_point state s e f point = covers.no_point reduced point (subst (λ h. IsCover reduced h []) e (subst (IsCover reduced state.held) f s.cover))

  pub no_point : (state : State) → IsSearch program reduced way Wide start state → state.held ≡ None → all_nodes state ≡ [] → (point : List ℚ) → ¬ IsFeasible program point
  no_point state s e f = reduction_no_point program reduced way.point s.back.reduction (no_reduced_point state s e f)

  pub nothing_cheaper : (state : State) (cost : ℚ) → IsSearch program reduced way Wide start state → state.held ≡ Some cost → NoneMatters state.held (all_nodes state) → IsLowerBound program cost
  nothing_cheaper state cost s e n = reduction_bound program reduced way.point cost s.back.reduction (none_cheaper reduced state.held (all_nodes state) cost e s.cover n)

  pub bound : (state : State) (b : ℚ) → IsSearch program reduced way Wide start state → IfSome state.held (λ cost. b ≤ℚ cost) → ((node : Node) → Contains (all_nodes state) node → HasBoundFrom b node) → IsLowerBound program b
  bound state b s h f = reduction_bound program reduced way.point b s.back.reduction (covers.cover_bound reduced state.held (all_nodes state) b s.cover h f)

  -- an improving point of the reduced program in the box of a parked node leads back to a wide leaf
  parked_point : (state : State) (cost : ℚ) → IsSearch program reduced way Wide start state → (none : HasNoDearer reduced cost) → IsImproving reduced state.held none.point → (r : IsInOneOf (all_nodes state) none.point) → Contains state.parked r.node → HasWidePoint program Wide cost
  parked_point state cost s none i r c =
      let k = s.stuck r.node c in
      let p = k.leads none.point i r.within in
      record {
        leaf = k.leaf;
        is_leaf = k.is_leaf;
        wide = k.wide;
        point = p.point;
        is_point = p.is_point;
        no_dearer = ≤ℚ_trans p.no_dearer none.no_dearer;
      }

  pub wide : (state : State) (point : List ℚ) → IsSearch program reduced way Wide start state → NoneMatters state.held (unended state) → IsFeasible program point → IfSome state.held (λ cost. cost_of program point <ℚ cost) → HasWidePoint program Wide (cost_of program point)
  wide state point s n f h =
      let none = s.back.reduction.none_lost point f in
      let i : IsImproving reduced state.held none.point = record { feasible = none.feasible; cheaper = still_cheaper state.held (cost_of reduced none.point) (cost_of program point) none.no_dearer h } in
      let r = s.cover.reached none.point i in
      elim (Contains-append_cases (unended state) state.parked r.node r.among) [
        | inl k ↦ absurd (both_ways (matters state.held r.node.bound) (n r.node k) (there_matters reduced state.held (all_nodes state) none.point s.cover i r))
        | inr k ↦ parked_point state (cost_of program point) s none i r k
      ]
