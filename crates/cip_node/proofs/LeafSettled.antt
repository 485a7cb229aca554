-- What is known of a leaf, and what that says of its node.
use Rattle.std.proofs.Common.{◌≡◌, ℕ, Bool, true, false, List, [], ◌∷◌, ◌++◌, length, Option, None, Some, IfSome, refl, sym, ap, ◌∙◌, subst}
use Rattle.cip_rational.specs.Rational.{ℚ, ◌≤ℚ◌, ◌<ℚ◌}
use Rattle.cip_rational.proofs.Rational.Order.{≤ℚ_trans, not_le_of_lt, le_of_lt_test}
use Rattle.cip_problem.specs.Program.{Program}
use Rattle.cip_problem.specs.Box.{IsInBox}
use Rattle.cip_problem.specs.Points.{IsFeasible, cost_of}
use Rattle.cip_problem.specs.Log.{Node}
use Rattle.cip_problem.specs.Improving.{HasNoImproving}
use Rattle.cip_problem.specs.Choices.{decided}
use Rattle.cip_problem.specs.Statements.{IsNodeOf}
use Rattle.cip_problem.specs.WellFormed.{columns, IsWellFormed}
use Rattle.cip_problem.proofs.Choices.Decided.{feasible}
use Rattle.cip_problem.proofs.Points.AtPlaces.{IsInBox-long}
use Rattle.cip_problem.proofs.Log.Entering.{contains_here}
use Rattle.cip_search.specs.Leaf.{Leaf, IsLeafOf, IsPointOfLeaf}
use Rattle.cip_search.proofs.Points.{only_leaf_of}
use Rattle.cip_search.specs.WideLeaf.{Shown, IsWideBy, IsWideLeaf}
use Rattle.cip_leaf.specs.LeafAnswers.{IsBest}
use Rattle.cip_model.specs.Verdicts.{verdict_of}
use Rattle.cip_model.specs.declared.verdicts.Verdict.TheVariants.{Feasible}
use Rattle.cip_incumbent.specs.HeldPoint.{HeldPoint, Holding, is_cheaper, taken_if, offered, after_taking, after_offer}
use Rattle.cip_incumbent.specs.declared.offers.Offered.{Offered}
use Rattle.cip_search.specs.SearchState.{IsWayBack, IsStuck, IsWideBack}
use Rattle.cip_core.specs.StepsBack.{StepsTaken, point_back, leaf_back, way_back}
use Rattle.cip_search.proofs.Told.{given_node_of}
use Rattle.cip_tree.specs.Nodes.{TakenNode, region_in, node_changes, box_of, shown}
use Rattle.cip_tree.specs.Tracked.{IsWithin}
use Rattle.cip_tree.proofs.Within.{within_changes}
use Rattle.cip_core.specs.CoreStates.{CoreState, reduced_of, held_of, IsTakenUp}
use Rattle.cip_core.specs.Later.{IsLater}
use Rattle.cip_core.specs.Steps.{IsOffered}
use Rattle.cip_core.specs.KeptNodes.{cost_held, state_of}
use Rattle.cip_node.specs.LeavesBack.{IsOnlyLeafBack}

-- a feasible point in the box of a node comes back as one of the leaf that the node's leaf comes back as
there : (program reduced : Program) (steps : StepsTaken) (node : Node) (leaf : Leaf) (point : List ℚ) → IsWayBack program reduced (way_back steps) → IsNodeOf reduced node → IsOnlyLeafBack program reduced steps node leaf → IsFeasible reduced point → IsInBox node.box point → IsPointOfLeaf program leaf (point_back steps point)
there program reduced steps node leaf point back n only f w =
    let p = only_leaf_of reduced node only.left point n only.only w f in
    subst (λ (l : Leaf). IsPointOfLeaf program l (point_back steps point)) (sym only.is) (record {
      feasible = back.choices only.left.on point p.feasible;
      values = back.leaves point f ∙ ap (leaf_back steps) p.values;
    })

-- at equal cost
same_cost : (program reduced : Program) (steps : StepsTaken) (point : List ℚ) → IsWayBack program reduced (way_back steps) → IsFeasible reduced point → cost_of program (point_back steps point) ≡ cost_of reduced point
same_cost program reduced steps point back f = back.reduction.cost point (record { within = f.within; rows = f.rows })

pub none_there : (program reduced : Program) (steps : StepsTaken) (held : Option ℚ) (node : Node) (leaf : Leaf) → IsWayBack program reduced (way_back steps) → IsNodeOf reduced node → IsOnlyLeafBack program reduced steps node leaf → ((point : List ℚ) → ¬ IsPointOfLeaf program leaf point) → HasNoImproving reduced held node.box
none_there program reduced steps held node leaf back n only h = λ point i w. h (point_back steps point) (there program reduced steps node leaf point back n only i.feasible w)

-- after an offer what is held costs no more than the point
held_below : (best : Option HeldPoint) (columns : ℕ) (cost own least : ℚ) (point : List ℚ) (cheaper : Bool) → is_cheaper cost best ≡ cheaper → cost ≡ own → cost ≤ℚ least → IfSome (cost_held (after_taking (taken_if cheaper) own point (record { columns = columns; best = best }))) (λ held. least <ℚ held) → ⊥
held_below best columns cost own least point true e f l i = not_le_of_lt i (subst (λ t. t ≤ℚ least) f l)
held_below None columns cost own least point false e f l i = absurd (cc)
held_below (Some held) columns cost own least point false e f l i = not_le_of_lt i (≤ℚ_trans (le_of_lt_test e) l)

module _ (program reduced : Program) (steps : StepsTaken) (node : Node) (leaf : Leaf) (back : IsWayBack program reduced (way_back steps)) (n : IsNodeOf reduced node) (only : IsOnlyLeafBack program reduced steps node leaf) where
  best_case : (point : List ℚ) (cost : ℚ) (holding new : Holding) → IsBest program leaf point cost → new ≡ after_offer (offered holding.best (Feasible cost)) program point holding → HasNoImproving reduced (cost_held new) node.box
  best_case point cost holding new b e = λ other i w.
      held_below holding.best holding.columns cost (cost_of program point) (cost_of reduced other) point (is_cheaper cost holding.best) refl b.cost_is
      (subst (λ t. cost ≤ℚ t) (same_cost program reduced steps other back i.feasible) (b.least (point_back steps other) (there program reduced steps node leaf other back n only i.feasible w)))
      (subst (λ t. IfSome (cost_held t) (λ held. cost_of reduced other <ℚ held)) e i.cheaper)

  pub best_settles : (point : List ℚ) (cost : ℚ) (holding new : Holding) (answer : Offered) → IsBest program leaf point cost → answer ≡ offered holding.best (verdict_of program point) → new ≡ after_offer answer program point holding → HasNoImproving reduced (cost_held new) node.box
  best_settles point cost holding new answer b e f =
      best_case point cost holding new b (f ∙ ap (λ a. after_offer a program point holding) (e ∙ ap (offered holding.best) b.found))

pub wide_back : (program reduced : Program) (steps : StepsTaken) (node : Node) (leaf : Leaf) (shown : Shown) → IsOnlyLeafBack program reduced steps node leaf → IsWideBy (decided program leaf.on) leaf.values shown → IsWideBack program reduced (way_back steps) node leaf shown
wide_back program reduced steps node leaf shown only wide = record { left = only.left; only = only.only; is = only.is; is_leaf = only.is_leaf; wide = wide }

pub wide_stuck : (program reduced : Program) (steps : StepsTaken) (node : Node) (leaf : Leaf) (shown : Shown) → IsOnlyLeafBack program reduced steps node leaf → IsWideBy (decided program leaf.on) leaf.values shown → IsStuck program reduced (way_back steps) IsWideLeaf node
wide_stuck program reduced steps node leaf shown only wide = record { leaf = leaf; at_leaf = record { left = only.left; only = only.only; is = only.is; is_leaf = only.is_leaf; wide = (shown, wide) } }

-- a point of the leaf is one of the program
pub feasible_back : (program : Program) (leaf : Leaf) (point : List ℚ) → IsWellFormed program → IsLeafOf program leaf → IsPointOfLeaf program leaf point → IsFeasible program point
feasible_back program leaf point formed is h = feasible program leaf.on point formed is.each h.feasible

pub long_point : (program : Program) (leaf : Leaf) (point : List ℚ) → IsWellFormed program → IsLeafOf program leaf → IsPointOfLeaf program leaf point → length point ≡ columns program
long_point program leaf point formed is h =
    IsInBox-long program.bounds point (feasible_back program leaf point formed is h).within ∙ formed.bounds

-- a node in work is one of the program
pub work_node_of : (core : CoreState) (node : TakenNode) → IsTakenUp core node → IsNodeOf (reduced_of core) (shown core.tree node)
work_node_of core node up =
    let state = state_of core.tree (held_of core) (shown core.tree node ∷ []) in
    given_node_of (reduced_of core) core.tree.root.bound state.log state.held (shown core.tree node) up.nodes.kept.searched.logged
    (up.nodes.kept.searched.given (shown core.tree node) (contains_here (shown core.tree node) (core.tree.open_ ++ core.tree.parked)))

-- its box lies within the program's
pub work_within : (core : CoreState) (node : TakenNode) → IsTakenUp core node → IsWithin (box_of core.tree node) (reduced_of core).bounds
work_within core node up =
    subst (IsWithin (box_of core.tree node)) (ap (λ (n : Node). n.box) up.nodes.kept.root)
    (within_changes (region_in core.tree.root) (node_changes core.tree node))

-- what the reduced program of a search says of the program as read
pub back_of : (core : CoreState) (node : TakenNode) → IsTakenUp core node → IsWayBack core.program (reduced_of core) (way_back core.steps)
back_of core node up = up.nodes.kept.searched.back

-- after the best point of its leaf was offered, none is better
pub best_after : (core mid : CoreState) (node : TakenNode) (leaf : Leaf) (point : List ℚ) (cost : ℚ) (answer : Offered) → IsTakenUp core node → IsOnlyLeafBack core.program (reduced_of core) core.steps (shown core.tree node) leaf → IsBest core.program leaf point cost → IsOffered core mid point answer → IsLater core mid → HasNoImproving (reduced_of mid) (held_of mid) (box_of core.tree node)
best_after core mid node leaf point cost answer up only best offered_ later =
    subst (λ p. HasNoImproving p (held_of mid) (box_of core.tree node)) (sym later.reduced)
    (best_settles core.program (reduced_of core) core.steps (shown core.tree node) leaf (back_of core node up) (work_node_of core node up) only point cost core.incumbent mid.incumbent answer best offered_.is_answer offered_.after)
