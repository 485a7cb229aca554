-- The search cover: nodes whose boxes hold every improving point, each with a bound of those in its box.
use Rattle.std.specs.Prelude.{◌≡◌, List, Option, Some, IfSome}
use Rattle.std.specs.List.{Contains}
use Rattle.cip_rational.specs.Rational.{ℚ, ◌≤ℚ◌}
use Rattle.cip_problem.specs.Program.{Program}
use Rattle.cip_problem.specs.Box.{IsInBox}
use Rattle.cip_problem.specs.Log.{Node}
use Rattle.cip_problem.specs.Improving.{IsImproving, HoldsInBox, IsBoundIn}

-- a point lies in the box of one of the nodes
pub record IsInOneOf (nodes : List Node) (point : List ℚ) : Type 0 where
  pub node : Node
  pub among : Contains nodes node
  pub within : IsInBox node.box point

-- a node's bound, if it has one, is a bound in its box
abbrev pub IsBounded : Program → Option ℚ → Node → Type 0
IsBounded program held node = IfSome node.bound (IsBoundIn program held node.box)

-- each improving point lies in the box of a node, and the nodes' bounds are bounds in their boxes
pub record IsCover (program : Program) (held : Option ℚ) (nodes : List Node) : Type 0 where
  pub reached : (point : List ℚ) → IsImproving program held point → IsInOneOf nodes point
  pub bounded : (node : Node) → Contains nodes node → IsBounded program held node

-- nodes that can stand for a node: each improving point in its box lies in the box of one of them, and where its bound
-- is one, theirs are
pub record IsReplacedBy (program : Program) (held : Option ℚ) (node : Node) (others : List Node) : Type 0 where
  pub reached : HoldsInBox program held node.box (IsInOneOf others)
  pub bounded : IsBounded program held node → (other : Node) → Contains others other → IsBounded program held other

-- a node has a bound, which is at least this number
pub record HasBoundFrom (b : ℚ) (node : Node) : Type 0 where
  pub bound : ℚ
  pub is_bound : node.bound ≡ Some bound
  pub from : b ≤ℚ bound
