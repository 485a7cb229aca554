-- Nodes of a search whose boxes have one leaf, which is wide.
use Rattle.cip_problem.specs.Program.{Program}
use Rattle.cip_problem.specs.Choices.{decided}
use Rattle.cip_problem.specs.Log.{Node}
use Rattle.cip_search.specs.Leaf.{Leaf, IsLeafOf, IsOnlyLeafOf}
use Rattle.cip_search.specs.WideLeaf.{Shown, IsWideBy}

-- the box of a node has one leaf, this one, which is wide by what is shown
pub record IsWideAs (program : Program) (node : Node) (leaf : Leaf) (shown : Shown) : Type 0 where
  pub only : IsOnlyLeafOf program node leaf
  pub is_leaf : IsLeafOf program leaf
  pub wide : IsWideBy (decided program leaf.on) leaf.values shown
