-- What the look of a node's box and choices comes to.
use Rattle.std.specs.Prelude.{◌≡◌, ◌⊎◌, ◌<◌, ◌^◌, ℕ, List}
use Rattle.cip_rational.specs.Rational.{ℚ}
use Rattle.cip_problem.specs.Box.{IsInBox}
use Rattle.cip_problem.specs.Wholes.{AllHaveWholes}
use Rattle.cip_tree.specs.Nodes.{TakenNode, region_of, box_of, choices_of}
use Rattle.cip_node_rules.specs.OpenColumns.{LacksWhole}
use Rattle.cip_node_rules.specs.OpenChoices.{IsSettledBox, IsOpenBox}
use Rattle.cip_node_rules.specs.declared.looks.Looked.{Looked}
use Rattle.cip_node_rules.specs.declared.looks.Looked.TheVariants.{Empty, Leaf, Open}
use Rattle.cip_core.specs.CoreStates.{CoreState, reduced_of, IsTakenUp, IsGivenBound}

-- a node was just taken up, and a number is left for each of its halves
pub record CanWorkOn (core : CoreState) (node : TakenNode) : Type 0 where
  pub up : IsTakenUp core node
  pub given : IsGivenBound core node.number node.bound
  pub few : core.tree.ids < 2 ^ 63

-- the region in work is the node's, and each whole column has a whole value
pub record IsFull (core : CoreState) (node : TakenNode) : Type 0 where
  pub region : core.tree.work ≡ region_of core.tree node
  pub wholes : AllHaveWholes (reduced_of core).integral (box_of core.tree node)

-- so it is, each whole column has one whole value, and no choice is open
pub record IsLeafNode (core : CoreState) (node : TakenNode) : Type 0 where
  pub full : IsFull core node
  pub settled : IsSettledBox (reduced_of core).integral (box_of core.tree node) (choices_of core.tree node)

-- or a whole column has two, or a choice is open
pub record IsOpenNode (core : CoreState) (node : TakenNode) : Type 0 where
  pub full : IsFull core node
  pub open_ : IsOpenBox (reduced_of core).integral (box_of core.tree node) (choices_of core.tree node)

-- the node's box has no point, or a whole column of it no whole value; or the node is a leaf; or it is open
abbrev pub IsLook : CoreState → TakenNode → Looked → Type 0
IsLook core node Empty =
    ((point : List ℚ) → ¬ IsInBox (box_of core.tree node) point)
    ⊎ ((column : ℕ) × LacksWhole (reduced_of core).integral (box_of core.tree node) column)
IsLook core node Leaf = IsLeafNode core node
IsLook core node Open = IsOpenNode core node
