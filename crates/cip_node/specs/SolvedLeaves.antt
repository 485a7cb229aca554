-- The leaf that was solved: the one of a box of the reduced program, as the leaf of the program as read that it comes
-- back as.
use Rattle.std.specs.Prelude.{◌≡◌, List, length}
use Rattle.cip_problem.specs.Program.{Sides, Choice, Program}
use Rattle.cip_problem.specs.Wholes.{AllHaveWholes}
use Rattle.cip_problem.specs.WellFormed.{columns}
use Rattle.cip_problem.specs.Choices.{AreStillOpen}
use Rattle.cip_problem.specs.Log.{Node}
use Rattle.cip_search.specs.Leaf.{Leaf}
use Rattle.cip_leaf.specs.LeafAnswers.{IsLeafAnswer}
use Rattle.cip_tree.specs.Nodes.{TakenNode, shown}
use Rattle.cip_tree.specs.Tracked.{IsWithin}
use Rattle.cip_core.specs.StepsBack.{StepsTaken}
use Rattle.cip_node_rules.specs.OpenChoices.{IsSettledBox}
use Rattle.cip_core.specs.CoreStates.{CoreState, reduced_of}
use Rattle.cip_node.specs.LeavesBack.{IsOnlyLeafBack}
use Rattle.cip_node.specs.declared.leaves.Solved.{Solved}

-- its whole values and its choices
abbrev pub leaf_of : Solved → Leaf
leaf_of solved = record { values = solved.values.items; on = solved.on.items }

-- in a box within the reduced program's each whole column has one whole value, and none of these choices is open
pub record HasOneLeaf (reduced : Program) (box : List Sides) (choices : List Choice) : Type 0 where
  pub wholes : AllHaveWholes reduced.integral box
  pub settled : IsSettledBox reduced.integral box choices
  pub within : IsWithin box reduced.bounds
  pub still_open : AreStillOpen reduced.choices choices
  pub long : length box ≡ columns reduced

-- each node of this box and these choices has one leaf, which comes back as this one, and this is known of it
pub record IsLeafThere
    (program reduced : Program) (steps : StepsTaken) (box : List Sides) (choices : List Choice) (solved : Solved)
    : Type 0 where
  pub there : (node : Node)
      → node.box ≡ box → node.choices ≡ choices → IsOnlyLeafBack program reduced steps node (leaf_of solved)
  pub answer : IsLeafAnswer program (leaf_of solved) solved.answer

-- the box of a node has one leaf, which comes back as this one of the program as read, and this is known of it
pub record IsSolvedOf (core : CoreState) (node : TakenNode) (solved : Solved) : Type 0 where
  pub there : IsOnlyLeafBack core.program (reduced_of core) core.steps (shown core.tree node) (leaf_of solved)
  pub answer : IsLeafAnswer core.program (leaf_of solved) solved.answer
