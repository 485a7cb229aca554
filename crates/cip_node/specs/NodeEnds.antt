-- How the work on a node ends: what each end says of the core before and after, of the node as it was taken up and as
-- it ended, and of the cost that is held then. The marks and the bounds of splits are those of the last linear program,
-- over the rows of the reduced program and those of the pool that may be used in the box, as the end finds both.
use Rattle.std.specs.Prelude.{◌≡◌, ◌+◌, ◌≤◌, ◌∷◌, [], ℕ, ℤ, true, false, List, Option, IfSome}
use Rattle.cip_rational.specs.Rational.{ℚ}
use Rattle.cip_problem.specs.Points.{IsFeasible}
use Rattle.cip_problem.specs.Log.{Split, Closed, Parked, Node, AllFollow, matters}
use Rattle.cip_problem.specs.Improving.{HasNoImproving}
use Rattle.cip_search.specs.Leaf.{Leaf, IsPointOfLeaf}
use Rattle.cip_search.specs.Searched.{first_node}
use Rattle.cip_search.specs.WideLeaf.{Shown}
use Rattle.cip_leaf.specs.LeafAnswers.{shown_as}
use Rattle.cip_search.specs.SearchState.{IsWideBack}
use Rattle.cip_model.specs.Rays.{IsShownRay}
use Rattle.cip_relax.specs.declared.relaxed.Mark.{Mark}
use Rattle.cip_tree.specs.Nodes.{TakenNode, region_in, box_of, shown}
use Rattle.cip_core.specs.CoreStates.{CoreState, reduced_of, way_of, held_of, IsKeptIn}
use Rattle.cip_core.specs.Later.{IsLater, IsNarrower}
use Rattle.cip_core.specs.Steps.{LeavesEntry, IsTried}
use Rattle.cip_node.specs.Bounding.{IsMarkOf, IsAsGood, HasTried, IsSplitBy}
use Rattle.cip_node.specs.LeavesBack.{IsOnlyLeafBack}
use Rattle.cip_node.specs.declared.ends.NodeEnd.{NodeEnd}
use Rattle.cip_node.specs.declared.ends.NodeEnd.TheVariants as by

-- ---- closed nodes

-- it was closed with a bound that isn't below the cost held
pub record IsPruned (old new : CoreState) (ended : Node) : Type 0 where
  pub entry : LeavesEntry old.tree new.tree ended Closed
  pub kept : IsKeptIn new []
  pub passed : matters (held_of new) ended.bound ≡ false

-- it was closed, and its box as it was taken up has no improving point
pub record IsEmptied (old new : CoreState) (node : TakenNode) (ended : Node) : Type 0 where
  pub entry : LeavesEntry old.tree new.tree ended Closed
  pub kept : IsKeptIn new []
  pub empty : HasNoImproving (reduced_of new) (held_of new) (box_of old.tree node)

-- it was closed; its box has one leaf, which comes back as a leaf of the program as read that has a point, and as it
-- was taken up it has no point that is cheaper than what is held
pub record IsSolvedLeaf (old new : CoreState) (node : TakenNode) (ended : Node) : Type 0 where
  pub entry : LeavesEntry old.tree new.tree ended Closed
  pub kept : IsKeptIn new []
  pub leaf : Leaf
  pub there : IsOnlyLeafBack new.program (reduced_of new) new.steps ended leaf
  pub point : List ℚ
  pub is_point : IsPointOfLeaf new.program leaf point
  pub settled : HasNoImproving (reduced_of new) (held_of new) (box_of old.tree node)

-- ---- split nodes

-- its bound is below the cost held, and it was split by the rules, with a bound that is as good as that of its last
-- linear program, unless a mark says what that met; the point by which it was split is one of that program, and what
-- it comes back as was offered. Where that has no point, it was split by the values of another
pub record IsHalved
    (old new : CoreState) (ended : Node) (mark : Option Mark) (low high : ℕ) : Type 0 where
  pub column : ℕ
  pub at : ℤ
  pub entry : LeavesEntry old.tree new.tree ended (Split column at low high)
  pub kept : IsKeptIn new []
  pub matter : matters (held_of new) ended.bound ≡ true
  pub point : Option (List ℚ)
  pub rule : IsSplitBy (reduced_of new).integral (region_in ended) point column at
  pub good : IsAsGood new ended.box ended.bound mark
  pub tried : HasTried new ended.box point mark

-- ---- leaves that can't be closed

-- it was put aside: its box has one leaf, which comes back as this leaf of the program as read, and that is wide
pub record IsAside
    (old new : CoreState) (ended : Node) (leaf : Leaf) (bound : Option ℚ) (by_this : Shown) : Type 0 where
  pub entry : LeavesEntry old.tree new.tree ended Parked
  pub kept : IsKeptIn new []
  pub bound_is : ended.bound ≡ bound
  pub wide : IsWideBack new.program (reduced_of new) (way_of new) ended leaf by_this

-- it was put aside, as the cost falls from a feasible point of the program as read along a ray that is shown; the point
-- was offered. The log is one of the reduced program
pub record IsEndless (old new : CoreState) (ended : Node) (point ray : List ℚ) : Type 0 where
  pub entry : LeavesEntry old.tree new.tree ended Parked
  pub logged : AllFollow (reduced_of new).integral (first_node (reduced_of new) new.tree.root.bound ∷ []) []
      new.tree.log
  pub feasible : IsFeasible new.program point
  pub shown_ray : IsShownRay new.program point ray
  pub tried : IsTried new.program (held_of new) point

-- ---- all ends

-- how a node ended, with this mark
abbrev pub IsEnd : CoreState → CoreState → TakenNode → Node → Option Mark → NodeEnd → Type 0
IsEnd old new node ended mark by.Pruned = IsPruned old new ended
IsEnd old new node ended mark by.Empty = IsEmptied old new node ended
IsEnd old new node ended mark by.Solved = IsSolvedLeaf old new node ended
IsEnd old new node ended mark (by.Split low high) = IsHalved old new ended mark low high
IsEnd old new node ended mark (by.Parked leaf on bound by_this) =
    IsAside old new ended (record { values = leaf.items; on = on.items }) bound (shown_as by_this)
IsEnd old new node ended mark (by.Ray point ray) = IsEndless old new ended point.items ray.items

-- an end that a leaf may have
abbrev pub IsLeafEnd : NodeEnd → Type 0
IsLeafEnd by.Pruned = ⊥
IsLeafEnd (by.Split low high) = ⊥
IsLeafEnd by.Empty = Unit {0}
IsLeafEnd by.Solved = Unit {0}
IsLeafEnd (by.Parked leaf on bound by_this) = Unit {0}
IsLeafEnd (by.Ray point ray) = Unit {0}

-- a node has ended so
pub record HasEnded (old new : CoreState) (node : TakenNode) (mark : Option Mark) (end : NodeEnd) : Type 0 where
  pub ended : Node
  pub narrower : IsNarrower new (shown old.tree node) ended
  pub same : new.touched ≡ false → ended.box ≡ box_of old.tree node
  pub later : IsLater old new
  pub few : new.tree.ids ≤ old.tree.ids + 2
  pub end_ : IsEnd old new node ended mark end
  pub met : IfSome mark (IsMarkOf new ended.box)
