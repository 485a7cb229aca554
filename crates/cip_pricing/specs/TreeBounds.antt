-- Bounding trees (branch and bound): what is shown of the points of a node is a number that they cost at least, or that
-- there is none.
use Rattle.std.specs.Prelude.{Bool, List, Option, None, Some}
use Rattle.std.specs.List.{AllByRecursion}
use Rattle.cip_rational.specs.Rational.{ℚ, ◌≤ℚ◌}
use Rattle.cip_rational.specs.Sums.{dot}
use Rattle.cip_problem.specs.Program.{Row}
use Rattle.cip_problem.specs.Box.{IsInBox}
use Rattle.cip_problem.specs.Choices.{KeepsChoices}
use Rattle.cip_problem.specs.Points.{IsSatisfied, AreWhole}
use Rattle.cip_problem.specs.Log.{Node}

-- a point of a node's box satisfies the rows, its whole columns have whole values, and the choices of the node allow
-- its values
pub record IsNodePoint (rows : List Row) (integral : List Bool) (node : Node) (point : List ℚ) : Type 0 where
  pub within : IsInBox node.box point
  pub whole : AreWhole integral point
  pub choices : KeepsChoices node.choices point
  pub satisfied : AllByRecursion (λ row. IsSatisfied row point) rows

-- the points of a node cost at least a number; where there is no number, the node has no point
abbrev pub IsTreeBound : List Row → List Bool → List ℚ → Node → Option ℚ → Type 0
IsTreeBound rows integral costs node None = (point : List ℚ) → ¬ IsNodePoint rows integral node point
IsTreeBound rows integral costs node (Some bound) =
    (point : List ℚ) → IsNodePoint rows integral node point → bound ≤ℚ dot costs point
