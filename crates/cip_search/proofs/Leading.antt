-- Parked nodes lead back to their leaves, and the ways back of a search.
use Rattle.std.proofs.Common.{List, ◌∷◌, [], Option, Contains, refl, sym, ap, ◌∙◌, subst}
use Rattle.std.proofs.lemmas.List.Elements.{Contains-append_right}
use Rattle.cip_rational.specs.Rational.{ℚ, ◌≤ℚ◌}
use Rattle.cip_rational.proofs.Rational.Order.{≤ℚ_refl}
use Rattle.cip_problem.specs.Program.{Program}
use Rattle.cip_problem.specs.Points.{IsFeasible, cost_of}
use Rattle.cip_problem.specs.Choices.{decided}
use Rattle.cip_problem.specs.Log.{Entry, Node, AllFollow}
use Rattle.cip_problem.specs.Improving.{IsNoDearer}
use Rattle.cip_problem.proofs.Improving.{fewer}
use Rattle.cip_problem.proofs.Reductions.{reduction_itself}
use Rattle.cip_problem.proofs.Log.Entering.{contains_here}
use Rattle.cip_search.specs.Leaf.{Leaf}
use Rattle.cip_search.specs.Searched.{first_node}
use Rattle.cip_search.specs.WideLeaf.{Shown, IsWideLeaf}
use Rattle.cip_search.specs.WideNodes.{IsWideAs}
use Rattle.cip_search.proofs.Points.{only_leaf_of}
use Rattle.cip_search.specs.SearchState.{State, WayBack, stay, IsWayBack, unended, IsGiven, LeadsBackTo, LeadsToWide, IsStuckAt, IsStuck, IsWideBack, IsSearch}
use Rattle.cip_search.specs.EndLaws.{IsFirstLeastNode, IsShownNode}
use Rattle.cip_search.proofs.Told.{given_node_of}

-- a node with one leaf that comes back as a wide one is put aside for that, whatever shows that it is wide
stuck_at : (program reduced : Program) (way : WayBack) (node : Node) (leaf : Leaf) (shown : Shown) → IsWideBack program reduced way node leaf shown → IsStuckAt program reduced way IsWideLeaf leaf node
stuck_at program reduced way node leaf shown h = record { left = h.left; only = h.only; is = h.is; is_leaf = h.is_leaf; wide = (shown, h.wide) }

pub stuck_back : (program reduced : Program) (way : WayBack) (node : Node) (leaf : Leaf) (shown : Shown) → IsWideBack program reduced way node leaf shown → IsStuck program reduced way IsWideLeaf node
stuck_back program reduced way node leaf shown h = record { leaf = leaf; at_leaf = stuck_at program reduced way node leaf shown h }

module _ (program reduced : Program) (way : WayBack) (start : Option ℚ) where
  -- the improving points in the box of a node with one leaf come back to what that comes back as
  pub leads_back : (Wide : Program → List ℚ → Type 0) (log : List Entry) (held : Option ℚ) (leaf : Leaf) (node : Node) → IsWayBack program reduced way → AllFollow reduced.integral (first_node reduced start ∷ []) [] log → IsGiven reduced start log held node → IsStuckAt program reduced way Wide leaf node → LeadsBackTo program reduced held node leaf
  leads_back Wide log held leaf node back f g k point i w =
      let left = k.left in
      let is_left = only_leaf_of reduced node left point (given_node_of reduced start log held node f g) k.only w i.feasible in
      record {
        point = way.point point;
        is_point = record {
          feasible = subst (λ on. IsFeasible (decided program on) (way.point point)) (sym (ap (λ (l : Leaf). l.on) k.is)) (back.choices left.on point is_left.feasible);
          values = back.leaves point i.feasible ∙ ap way.leaf is_left.values ∙ sym (ap (λ (l : Leaf). l.values) k.is);
        };
        no_dearer = subst (λ t. t ≤ℚ cost_of reduced point) (sym (back.reduction.cost point (record { within = i.feasible.within; rows = i.feasible.rows }))) (≤ℚ_refl (cost_of reduced point));
      }

  pub leads_to_wide : (Wide : Program → List ℚ → Type 0) (log : List Entry) (held : Option ℚ) (node : Node) → IsWayBack program reduced way → AllFollow reduced.integral (first_node reduced start ∷ []) [] log → IsGiven reduced start log held node → IsStuck program reduced way Wide node → LeadsToWide program reduced Wide held node
  leads_to_wide Wide log held node back f g k = record {
    leaf = k.leaf;
    is_leaf = k.at_leaf.is_leaf;
    leads = leads_back Wide log held k.leaf node back f g k.at_leaf;
    wide = k.at_leaf.wide;
  }

  -- ---- the leaf that is shown

  pub shown_node : (Wide : Program → List ℚ → Type 0) (state : State) (node : Node) (leaf : Leaf) (shown : Shown) → IsSearch program reduced way Wide start state → IsFirstLeastNode state.parked node → IsWideBack program reduced way node leaf shown → IsShownNode program reduced state.held state.parked leaf shown
  shown_node Wide state node leaf shown s first k =
      let among : Contains state.parked node = subst (λ t. Contains t node) (sym first.placed) (Contains-append_right first.before (node ∷ first.after) node (contains_here node first.after)) in
      record {
        node = node;
        chosen = first;
        leads = leads_back IsWideLeaf state.log state.held leaf node s.back s.logged (s.given node (Contains-append_right (unended state) state.parked node among)) (stuck_at program reduced way node leaf shown k);
        is_leaf = k.is_leaf;
        wide = k.wide;
      }

  -- ---- ways back

  pub by_other : (other : WayBack) (Wide : Program → List ℚ → Type 0) (state : State) → IsWayBack program reduced other → IsSearch program reduced way Wide start state → IsSearch program reduced other Wide start state
  by_other other Wide state back s = record {
    back = back;
    attained = s.attained;
    cover = s.cover;
    logged = s.logged;
    given = s.given;
    unlogged = s.unlogged;
    apart = s.apart;
    parked = s.parked;
    stuck = s.stuck;
    bounds = s.bounds;
    entries = s.entries;
    complete = s.complete;
  }

-- in a program that is searched itself the leaf of a node comes back as it is
pub wide_itself : (program : Program) (node : Node) (leaf : Leaf) (shown : Shown) → IsWideAs program node leaf shown → IsWideBack program program stay node leaf shown
wide_itself program node leaf shown h = record { left = leaf; only = h.only; is = refl; is_leaf = h.is_leaf; wide = h.wide }

pub stays : (program : Program) → IsWayBack program program stay
stays program = record { reduction = reduction_itself program; leaves = λ point h. refl; choices = λ on point h. h }

-- the improving points get fewer as the cost held falls
pub still_leads : (program reduced : Program) (Wide : Program → List ℚ → Type 0) (now before : Option ℚ) (node : Node) → IsNoDearer now before → LeadsToWide program reduced Wide before node → LeadsToWide program reduced Wide now node
still_leads program reduced Wide now before node l k = record {
  leaf = k.leaf;
  is_leaf = k.is_leaf;
  leads = λ point i w. k.leads point (fewer reduced now before point l i) w;
  wide = k.wide;
}
