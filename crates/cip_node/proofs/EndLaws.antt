-- How a node ends, from what its last step left, and seen from before the steps of its work.
use Rattle.std.proofs.Common.{◌≡◌, ℕ, ℤ, ◌+◌, ◌≤◌, true, false, List, [], ◌∷◌, ◌++◌, Option, None, Some, IfSome, Result, Ok, Err, refl, sym, ap, ◌∙◌, subst, arith}
use Rattle.std.specs.Prelude.{MatchResult}
use Rattle.cip_rational.specs.Rational.{ℚ}
use Rattle.cip_problem.specs.Program.{Sides}
use Rattle.cip_problem.specs.Log.{End, Split, Closed, Parked, Node, matters}
use Rattle.cip_problem.specs.Improving.{HasNoImproving, IsImproving}
use Rattle.cip_problem.proofs.Improving.{fewer}
use Rattle.cip_domain.specs.Changes.{Region}
use Rattle.cip_search.specs.Leaf.{Leaf, IsPointOfLeaf}
use Rattle.cip_leaf.specs.LeafAnswers.{shown_as}
use Rattle.cip_leaf.specs.declared.answers.Shown.{Shown}
use Rattle.cip_relax.specs.declared.relaxed.Mark.{Mark}
use Rattle.cip_tree.specs.Nodes.{TakenNode, Nodes, region_of, box_of, shown}
use Rattle.cip_core.specs.CoreStates.{CoreState, reduced_of, way_of, held_of, IsTakenUp}
use Rattle.cip_core.specs.Later.{IsLater, IsNarrower, IsLaterAt}
use Rattle.cip_core.specs.Steps.{parked_after, LeavesEntry, HasLeft, IsBack}
use Rattle.cip_core.proofs.CoreSteps.{with_tree}
use Rattle.cip_core.proofs.HeldAfter.{itself}
use Rattle.cip_rows.specs.RowPools.{Pool}
use Rattle.cip_core.proofs.Relations.{later_further, narrower_itself, narrower_further}
use Rattle.cip_node.specs.Bounding.{IsMarkOf, IsAsGood, point_of, IsFound, IsSplitBy}
use Rattle.cip_node.specs.NodeEnds.{IsAside, IsEnd, HasEnded}
use Rattle.cip_node.specs.LeavesBack.{IsOnlyLeafBack}
use Rattle.cip_search.specs.SearchState.{IsWideBack}
use Rattle.cip_node.proofs.LeavesBack.{back_later}
use Rattle.cip_node.specs.declared.bounding.Found.{Found}
use Rattle.cip_node.specs.declared.ends.NodeEnd.{NodeEnd}
use Rattle.cip_node.specs.declared.ends.NodeRecord.{NodeRecord}
use Rattle.cip_node.specs.Looking.{CanWorkOn}
use Rattle.cip_node.specs.declared.ends.NodeEnd.TheVariants as by

-- a node ends as it was taken up
pub ended_here : (core new : CoreState) (node : TakenNode) (mark : Option Mark) (end : NodeEnd) → IsLater core new → new.tree.ids ≤ core.tree.ids + 2 → IsEnd core new node (shown core.tree node) mark end → IfSome mark (IsMarkOf new (box_of core.tree node)) → HasEnded core new node mark end
ended_here core new node mark end later few e met = record {
  ended = shown core.tree node;
  narrower = narrower_itself new (shown core.tree node);
  same = λ u. refl;
  later = later;
  few = few;
  end_ = e;
  met = met;
}

-- steps of a node, which may be in work or not yet
pub record Leads (old : CoreState) (had : TakenNode) (new : CoreState) (has : TakenNode) : Type 0 where
  pub later : IsLater old new
  pub narrower : IsNarrower new (shown old.tree had) (shown new.tree has)
  pub log : new.tree.log ≡ old.tree.log
  pub parked : new.tree.parked ≡ old.tree.parked
  pub ids : new.tree.ids ≡ old.tree.ids
  pub same : new.touched ≡ false → region_of new.tree has ≡ region_of old.tree had

pub leads_of : (old mid : CoreState) (node has : TakenNode) → IsLaterAt old node mid has → Leads old node mid has
leads_of old mid node has l = record { later = l.later; narrower = l.narrower; log = l.log; parked = l.parked; ids = l.ids; same = l.same }

-- rows of the pool went, and another region is in work
abbrev pub looked_core : CoreState → Pool → Region → CoreState
looked_core core pool work = record core { pool = pool; tree = record core.tree { work = work } }

pub leads_looked : (core : CoreState) (pool : Pool) (work : Region) (node : TakenNode) → Leads core node (looked_core core pool work) node
leads_looked core pool work node = record {
  later = record { program = refl; reduced = refl; steps = refl; root = refl; integral = refl; ids = omega arith; no_dearer = itself (held_of core); untouched = λ u. u };
  narrower = narrower_itself (looked_core core pool work) (shown core.tree node);
  log = refl;
  parked = refl;
  ids = refl;
  same = λ u. refl;
}

-- no improving point is in a box, seen from before the work on the node
module _ (old mid new : CoreState) (node has : TakenNode) (l : Leads old node mid has) (later : IsLater mid new) where
  none_before : HasNoImproving (reduced_of new) (held_of new) (box_of mid.tree has) → HasNoImproving (reduced_of new) (held_of new) (box_of old.tree node)
  none_before h point i w =
      let i' : IsImproving (reduced_of mid) (held_of mid) point = fewer (reduced_of mid) (held_of new) (held_of mid) point later.no_dearer (subst (λ p. IsImproving p (held_of new) point) later.reduced i) in
      h point i (l.narrower.keeps point i' w)

  pub entry_before : (ended : Node) (end : End) → LeavesEntry mid.tree new.tree ended end → LeavesEntry old.tree new.tree ended end
  entry_before ended end e = record {
    logged = subst (λ l. new.tree.log ≡ l ++ record { node = ended.number; bound = ended.bound; end = end } ∷ []) l.log e.logged;
    parked = subst (λ p. new.tree.parked ≡ parked_after p ended end) l.parked e.parked;
  }

  end_before : (ended : Node) (mark : Option Mark) (end : NodeEnd) → IsEnd mid new has ended mark end → IsEnd old new node ended mark end
  end_before ended mark by.Pruned h = record { entry = entry_before ended Closed h.entry; kept = h.kept; passed = h.passed }
  end_before ended mark by.Empty h = record { entry = entry_before ended Closed h.entry; kept = h.kept; empty = none_before h.empty }
  end_before ended mark by.Solved h = record {
    entry = entry_before ended Closed h.entry;
    kept = h.kept;
    leaf = h.leaf;
    there = h.there;
    point = h.point;
    is_point = h.is_point;
    settled = none_before h.settled;
  }
  end_before ended mark (by.Split low high) h = record {
    column = h.column;
    at = h.at;
    entry = entry_before ended (Split h.column h.at low high) h.entry;
    kept = h.kept;
    matter = h.matter;
    point = h.point;
    rule = h.rule;
    good = h.good;
    tried = h.tried;
  }
  end_before ended mark (by.Parked leaf on bound by_this) h = record {
    entry = entry_before ended Parked h.entry;
    kept = h.kept;
    bound_is = h.bound_is;
    wide = h.wide;
  }
  end_before ended mark (by.Ray point ray) h = record {
    entry = entry_before ended Parked h.entry;
    logged = h.logged;
    feasible = h.feasible;
    shown_ray = h.shown_ray;
    tried = h.tried;
  }

-- a node has ended after steps of its work
pub ended_led : (old mid new : CoreState) (node has : TakenNode) (mark : Option Mark) (end : NodeEnd) → Leads old node mid has → HasEnded mid new has mark end → HasEnded old new node mark end
ended_led old mid new node has mark end l h = record {
  ended = h.ended;
  narrower = narrower_further mid new (shown old.tree node) (shown mid.tree has) h.ended h.later l.narrower h.narrower;
  same = λ u. h.same u ∙ ap (λ (r : Region). r.box) (l.same (h.later.untouched u));
  later = later_further old mid new l.later h.later;
  few = subst (λ n. new.tree.ids ≤ n + 2) l.ids h.few;
  end_ = end_before old mid new node has l h.later h.ended mark end h.end_;
  met = h.met;
}

-- so it is where it goes back
pub back_led : (old mid new : CoreState) (node has : TakenNode) (number : ℕ) (bound : Option ℚ) → Leads old node mid has → IsBack mid new number bound → IsBack old new number bound
back_led old mid new node has number bound l h = record {
  kept = h.kept;
  log = h.log ∙ l.log;
  parked = h.parked ∙ l.parked;
  ids = h.ids ∙ l.ids;
  later = later_further old mid new l.later h.later;
  open_ = h.open_;
}

pub ended_after : (old mid new : CoreState) (node has : TakenNode) (mark : Option Mark) (end : NodeEnd) → IsLaterAt old node mid has → HasEnded mid new has mark end → HasEnded old new node mark end
ended_after old mid new node has mark end l h = ended_led old mid new node has mark end (leads_of old mid node has l) h

pub back_after : (old mid new : CoreState) (node has : TakenNode) (number : ℕ) (bound : Option ℚ) → IsLaterAt old node mid has → IsBack mid new number bound → IsBack old new number bound
back_after old mid new node has number bound l h = back_led old mid new node has number bound (leads_of old mid node has l) h

-- and from before the look
pub ended_looked : (core new : CoreState) (pool : Pool) (work : Region) (node : TakenNode) (mark : Option Mark) (end : NodeEnd) → HasEnded (looked_core core pool work) new node mark end → HasEnded core new node mark end
ended_looked core new pool work node mark end h = ended_led core (looked_core core pool work) new node node mark end (leads_looked core pool work node) h

pub back_looked : (core new : CoreState) (pool : Pool) (work : Region) (node : TakenNode) (number : ℕ) (bound : Option ℚ) → IsBack (looked_core core pool work) new number bound → IsBack core new number bound
back_looked core new pool work node number bound h = back_led core (looked_core core pool work) new node node number bound (leads_looked core pool work node) h

-- ---- nodes that are closed

pub emptied : (core new : CoreState) (node : TakenNode) → HasLeft core new node Closed → HasNoImproving (reduced_of new) (held_of new) (box_of core.tree node) → HasEnded core new node None by.Empty
emptied core new node h e = ended_here core new node None by.Empty h.later h.few (record { entry = h.entry; kept = h.kept; empty = e }) tt

-- what has no improving point has none later
pub none_kept : (mid new : CoreState) (box : List Sides) → IsLater mid new → HasNoImproving (reduced_of mid) (held_of mid) box → HasNoImproving (reduced_of new) (held_of new) box
none_kept mid new box later h = λ point i w.
    h point (fewer (reduced_of mid) (held_of new) (held_of mid) point later.no_dearer (subst (λ p. IsImproving p (held_of new) point) later.reduced i)) w

-- nor has the box that it is narrowed to
pub none_now : (old mid : CoreState) (node has : TakenNode) → IsLaterAt old node mid has → HasNoImproving (reduced_of mid) (held_of mid) (box_of old.tree node) → HasNoImproving (reduced_of mid) (held_of mid) (box_of mid.tree has)
none_now old mid node has l h = λ point i w. h point i (l.narrower.inside point w)

-- a node has ended whose work found no improving point in its box
pub emptied_after : (old mid new : CoreState) (node has : TakenNode) → IsLaterAt old node mid has → HasLeft mid new has Closed → HasNoImproving (reduced_of mid) (held_of mid) (box_of mid.tree has) → HasEnded old new node None by.Empty
emptied_after old mid new node has l h e = ended_after old mid new node has None by.Empty l (emptied mid new has h (none_kept mid new (box_of mid.tree has) h.later e))

-- ---- nodes that are open

pub met_of : (core : CoreState) (box : List Sides) (bound : Option ℚ) (mark : Option Mark) → IsAsGood core box bound mark → IfSome mark (IsMarkOf core box)
met_of core box bound None h = tt
met_of core box bound (Some mark) h = h

module _ (core : CoreState) (tree : Nodes) (node : TakenNode) (found : Found) (is_found : IsFound core (box_of core.tree node) node.bound found) where
  met : IfSome found.mark (IsMarkOf core (box_of core.tree node))
  met = met_of core (box_of core.tree node) node.bound found.mark is_found.good

  pub pruned_ended : HasLeft core (with_tree core tree) node Closed → matters (held_of core) node.bound ≡ false → HasEnded core (with_tree core tree) node found.mark by.Pruned
  pruned_ended h passed = ended_here core (with_tree core tree) node found.mark by.Pruned h.later h.few (record { entry = h.entry; kept = h.kept; passed = passed }) met

  pub halved_ended : (column : ℕ) (at : ℤ) (low high : ℕ) → HasLeft core (with_tree core tree) node (Split column at low high) → matters (held_of core) node.bound ≡ true → IsSplitBy (reduced_of core).integral (region_of core.tree node) (point_of found) column at → HasEnded core (with_tree core tree) node found.mark (by.Split low high)
  halved_ended column at low high h matter rule = ended_here core (with_tree core tree) node found.mark (by.Split low high) h.later h.few (record {
    column = column;
    at = at;
    entry = h.entry;
    kept = h.kept;
    matter = matter;
    point = point_of found;
    rule = rule;
    good = is_found.good;
    tried = is_found.tried;
  }) met

-- ---- leaves

-- a leaf was closed after its best point was offered
pub solved_ended : (core mid new : CoreState) (node : TakenNode) (leaf : Leaf) (point : List ℚ) → IsLaterAt core node mid node → HasLeft mid new node Closed → IsOnlyLeafBack core.program (reduced_of core) core.steps (shown core.tree node) leaf → IsPointOfLeaf core.program leaf point → HasNoImproving (reduced_of mid) (held_of mid) (box_of core.tree node) → HasEnded core new node None by.Solved
solved_ended core mid new node leaf point l h only is none =
    let later = later_further core mid new l.later h.later in
    ended_here core new node None by.Solved later (subst (λ n. new.tree.ids ≤ n + 2) l.ids h.few) (record {
      entry = record {
        logged = subst (λ log. new.tree.log ≡ log ++ record { node = node.number; bound = node.bound; end = Closed } ∷ []) l.log h.entry.logged;
        parked = subst (λ p. new.tree.parked ≡ p) l.parked h.entry.parked;
      };
      kept = h.kept;
      leaf = leaf;
      there = back_later core new (shown core.tree node) leaf later only;
      point = point;
      is_point = subst (λ p. IsPointOfLeaf p leaf point) (sym later.program) is;
      settled = none_kept mid new (box_of core.tree node) h.later none;
    }) tt

-- a leaf was put aside as a wide one
pub aside_ended : (core : CoreState) (tree : Nodes) (node : TakenNode) (leaf : Leaf) (bound : Option ℚ) (by_this : Shown) → HasLeft core (with_tree core tree) node Parked → bound ≡ node.bound → IsWideBack core.program (reduced_of core) (way_of core) (shown core.tree node) leaf (shown_as by_this) → IsAside core (with_tree core tree) (shown core.tree node) leaf bound (shown_as by_this)
aside_ended core tree node leaf bound by_this h b w = record { entry = h.entry; kept = h.kept; bound_is = sym b; wide = w }

-- it was put aside, as the cost falls from a point of it that was offered
pub endless_ended : (core mid new : CoreState) (node : TakenNode) (end : NodeEnd) → IsLaterAt core node mid node → IsLater mid new → new.tree.ids ≡ mid.tree.ids → IsEnd mid new node (shown mid.tree node) None end → HasEnded core new node None end
endless_ended core mid new node end l later ids e =
    ended_after core mid new node node None end l (ended_here mid new node None end later (omega (arith, ids)) e tt)

-- ---- the work on a node as a whole

pub ended_or_back : {E : Type 0} (core new : CoreState) (pool : Pool) (work : Region) (node : TakenNode) (r : Result (NodeEnd × NodeRecord) E) → MatchResult r (λ done. HasEnded (looked_core core pool work) new node done.1.mark done.0) (λ _. IsBack (looked_core core pool work) new node.number node.bound) → MatchResult r (λ done. HasEnded core new node done.1.mark done.0) (λ _. IsBack core new node.number node.bound)
ended_or_back core new pool work node (Ok done) h = ended_looked core new pool work node done.1.mark done.0 h
ended_or_back core new pool work node (Err error) h = back_looked core new pool work node node.number node.bound h

pub can_looked : (core : CoreState) (pool : Pool) (work : Region) (node : TakenNode) → IsTakenUp (looked_core core pool work) node → CanWorkOn core node → CanWorkOn (looked_core core pool work) node
can_looked core pool work node up h = record { up = up; given = h.given; few = h.few }
