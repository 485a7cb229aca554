-- What a search says of a program once it stands still: what is left of it, and the points that are in wide leaves.
use Rattle.std.specs.Prelude.{◌≡◌, ◌⊎◌, true, false, List, Option, Some}
use Rattle.std.specs.List.{Contains}
use Rattle.cip_rational.specs.Rational.{ℚ, ◌≤ℚ◌}
use Rattle.cip_problem.specs.Program.{Program}
use Rattle.cip_problem.specs.Points.{cost_of}
use Rattle.cip_problem.specs.Choices.{decided}
use Rattle.cip_problem.specs.Log.{Node, matters}
use Rattle.cip_search.specs.Leaf.{Leaf, IsLeafOf, IsPointOfLeaf}
use Rattle.cip_search.specs.Searched.{NoMore, IsCostHeld}

-- one of the nodes matters beside the cost held
pub record OneMatters (held : Option ℚ) (nodes : List Node) : Type 0 where
  pub node : Node
  pub among : Contains nodes node
  pub matter : matters held node.bound ≡ true

-- none does
abbrev pub NoneMatters : Option ℚ → List Node → Type 0
NoneMatters held nodes = (node : Node) → Contains nodes node → matters held node.bound ≡ false

-- a point of a wide leaf costs no more than this
pub record HasWidePoint (program : Program) (Wide : Program → List ℚ → Type 0) (cost : ℚ) : Type 0 where
  pub leaf : Leaf
  pub is_leaf : IsLeafOf program leaf
  pub wide : Wide (decided program leaf.on) leaf.values
  pub point : List ℚ
  pub is_point : IsPointOfLeaf program leaf point
  pub no_dearer : cost_of program point ≤ℚ cost

-- a bound is that of one of the nodes
pub record IsBoundOfOne (nodes : List Node) (bound : Option ℚ) : Type 0 where
  pub node : Node
  pub among : Contains nodes node
  pub is_bound : bound ≡ node.bound

-- a bound is the least of the cost held and of the nodes' bounds
pub record IsLeastBound (held : Option ℚ) (nodes : List Node) (bound : Option ℚ) : Type 0 where
  pub one : IsCostHeld held bound ⊎ IsBoundOfOne nodes bound
  pub cost : (cost : ℚ) → held ≡ Some cost → NoMore bound (Some cost)
  pub each : (node : Node) → Contains nodes node → NoMore bound node.bound
