-- What a search needs of how the work on a node ends, whoever did it: with plugins or without.
use Rattle.std.specs.Prelude.{◌≡◌, ◌+◌, ◌≤◌, [], ℕ, ℤ, false, Option, IfSome}
use Rattle.cip_problem.specs.Log.{Split, Closed, Node}
use Rattle.cip_solve.specs.LeafAnswers.{shown_as}
use Rattle.cip_solve.specs.Mark.{Mark}
use Rattle.cip_tree.specs.Nodes.{TakenNode, box_of, shown}
use Rattle.cip_solve.specs.CoreStates.{CoreState, IsKeptIn}
use Rattle.cip_solve.specs.Later.{IsLater, IsNarrower}
use Rattle.cip_solve.specs.Steps.{LeavesEntry}
use Rattle.cip_solve.specs.Bounding.{IsMarkOf, IsAsGood}
use Rattle.cip_solve.specs.NodeEnds.{IsAside, IsEndless}
use Rattle.cip_solve.specs.NodeEnd.{NodeEnd}
use Rattle.cip_solve.specs.NodeEnd.TheVariants as by

-- it was closed
pub record IsClosedOff (old new : CoreState) (ended : Node) : Type 0 where
  pub entry : LeavesEntry old.tree new.tree ended Closed
  pub kept : IsKeptIn new []

-- it was split, with a bound that is as good as that of its last linear program, unless a mark says what that met
pub record IsSplitUp (old new : CoreState) (ended : Node) (mark : Option Mark) (low high : ℕ) : Type 0 where
  pub column : ℕ
  pub at : ℤ
  pub entry : LeavesEntry old.tree new.tree ended (Split column at low high)
  pub kept : IsKeptIn new []
  pub good : IsAsGood new ended.box ended.bound mark

-- it ended so, with this mark
abbrev pub IsWorkedEnd : CoreState → CoreState → Node → Option Mark → NodeEnd → Type 0
IsWorkedEnd old new ended mark by.Pruned = IsClosedOff old new ended
IsWorkedEnd old new ended mark by.Empty = IsClosedOff old new ended
IsWorkedEnd old new ended mark by.Solved = IsClosedOff old new ended
IsWorkedEnd old new ended mark (by.Split low high) = IsSplitUp old new ended mark low high
IsWorkedEnd old new ended mark (by.Parked leaf on bound by_this) =
    IsAside old new ended (record { values = leaf.items; on = on.items }) bound (shown_as by_this)
IsWorkedEnd old new ended mark (by.Ray point ray) = IsEndless old new ended point.items ray.items

-- a node was worked on until it ended so: from the node as it was taken up to the node as it ended
pub record HasWorked (old new : CoreState) (node : TakenNode) (mark : Option Mark) (end : NodeEnd) : Type 0 where
  pub ended : Node
  pub narrower : IsNarrower new (shown old.tree node) ended
  pub same : new.touched ≡ false → ended.box ≡ box_of old.tree node
  pub later : IsLater old new
  pub few : new.tree.ids ≤ old.tree.ids + 2
  pub end_ : IsWorkedEnd old new ended mark end
  pub met : IfSome mark (IsMarkOf new ended.box)
