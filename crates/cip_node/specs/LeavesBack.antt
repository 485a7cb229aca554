-- Leaves of the reduced program, as those of the program as read that they come back as.
use Rattle.std.specs.Prelude.{◌≡◌}
use Rattle.cip_problem.specs.Program.{Program}
use Rattle.cip_problem.specs.Log.{Node}
use Rattle.cip_search.specs.Leaf.{Leaf, IsLeafOf, IsOnlyLeafOf}
use Rattle.cip_core.specs.StepsBack.{StepsTaken, leaf_back}

-- the leaf that one of the reduced program comes back as: whole values as the steps say, and the same choices
abbrev pub leaf_read : StepsTaken → Leaf → Leaf
leaf_read steps left = record { values = leaf_back steps left.values; on = left.on }

-- the box of a node has one leaf of the reduced program, which comes back as this leaf of the program as read
pub record IsOnlyLeafBack
    (program reduced : Program) (steps : StepsTaken) (node : Node) (leaf : Leaf) : Type 0 where
  pub left : Leaf
  pub only : IsOnlyLeafOf reduced node left
  pub is : leaf ≡ leaf_read steps left
  pub is_leaf : IsLeafOf program leaf
