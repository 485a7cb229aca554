-- The laws, each as one statement: the functions of `src/lib.rt` have them as contracts.
use Rattle.std.specs.Prelude.{◌≡◌, true, Bool, All, List, Option, None, Some, length}
use Rattle.cip_rational.specs.Rational.{ℚ}
use Rattle.cip_problem.specs.Program.{Sides, Program}
use Rattle.cip_problem.specs.Box.{IsInBox}
use Rattle.cip_problem.specs.Points.{AreWhole, IsFeasible, cost_of, IsLowerBound}
use Rattle.cip_problem.specs.Choices.{decided}
use Rattle.cip_problem.specs.Log.{Entry, Node}
use Rattle.cip_problem.specs.Statements.{IsNodeOf}
use Rattle.cip_problem.specs.Improving.{IsImproving}
use Rattle.cip_search.specs.Leaf.{at_wholes, IsLeafIn, IsPointOf, IsOnlyLeaf, Leaf, IsLeafOf, IsPointOfLeaf, IsOnlyLeafOf}
use Rattle.cip_search.specs.Searched.{OpenMatters, ParkedMatters, IsCovered, IsLeast, HasPointOfLeaf, AreTrueEntries}
use Rattle.cip_search.specs.Wide.{IsWide}

-- a feasible point has this leaf
pub record HasLeaf (program : Program) (point : List ℚ) : Type 0 where
  pub leaf : Leaf
  pub is_leaf : IsLeafOf program leaf
  pub is_point : IsPointOfLeaf program leaf point

-- the whole values of a point are a leaf, and in a box with one whole assignment they are that one; a feasible point
-- has a leaf, and in the box of a node of the program with one leaf it has that one; where no column is continuous,
-- values have no other point
pub record PointsHaveLeaves : Type 0 where
  pub own : (integral : List Bool) (box : List Sides) (point : List ℚ)
      → IsInBox box point → AreWhole integral point → IsLeafIn integral box (at_wholes integral point)
  pub feasible : (program : Program) (point : List ℚ) → IsFeasible program point → HasLeaf program point
  pub only_values : (integral : List Bool) (box : List Sides) (values point : List ℚ)
      → IsOnlyLeaf integral box values → IsInBox box point → AreWhole integral point
      → at_wholes integral point ≡ values
  pub only : (program : Program) (node : Node) (leaf : Leaf) (point : List ℚ)
      → IsNodeOf program node → IsOnlyLeafOf program node leaf
      → IsInBox node.box point → IsFeasible program point → IsPointOfLeaf program leaf point
  pub whole : (program : Program) (values point : List ℚ)
      → All (λ whole. whole ≡ true) program.integral → length program.integral ≡ length program.bounds
      → IsPointOf program values point → point ≡ values

-- an improving point has one that is no dearer in a wide leaf
pub record HasWideLeafAt (program : Program) (point : List ℚ) : Type 0 where
  pub leaf : Leaf
  pub has : HasPointOfLeaf program leaf (cost_of program point)
  pub wide : IsWide (decided program leaf.on) leaf.values

-- what a cover says: the least bound is a bound of all feasible points; where nothing matters, no feasible point is
-- cheaper than what is held, or there is none; and where no open node matters, each improving point has one that is no
-- dearer in a wide leaf
pub record CoversTell : Type 0 where
  pub bound : (program : Program) (start : Option ℚ) (log : List Entry) (held : Option ℚ) (b : ℚ)
      → IsCovered program start log held → IsLeast program start log held (Some b) → IsLowerBound program b
  pub nothing_cheaper : (program : Program) (start : Option ℚ) (log : List Entry) (cost : ℚ)
      → IsCovered program start log (Some cost) → ¬ OpenMatters program start log (Some cost)
      → ¬ ParkedMatters log (Some cost) → IsLowerBound program cost
  pub no_point : (program : Program) (start : Option ℚ) (log : List Entry)
      → IsCovered program start log None → ¬ OpenMatters program start log None → ¬ ParkedMatters log None
      → (point : List ℚ) → ¬ IsFeasible program point
  pub wide : (program : Program) (start : Option ℚ) (log : List Entry) (held : Option ℚ) (point : List ℚ)
      → IsCovered program start log held → AreTrueEntries program IsWide start log held
      → ¬ OpenMatters program start log held → IsImproving program held point
      → HasWideLeafAt program point
