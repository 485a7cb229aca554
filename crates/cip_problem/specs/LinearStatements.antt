-- The main laws, each as one statement: the functions of `src/lib.rt` have them as contracts.
use Rattle.std.specs.Prelude.{◌≡◌, ℕ, ◌≤◌, ◌<◌, true, List, [], length, Some}
use Rattle.std.specs.List.{AllByRecursion}
use Rattle.cip_rational.specs.Rational.{ℚ, zeroℚ, ◌+ℚ◌, ◌*ℚ◌, ◌≤ℚ◌, ◌<ℚ◌}
use Rattle.cip_rational.specs.Sums.{dot}
use Rattle.cip_problem.specs.Program.{Sides, Row}
use Rattle.cip_problem.specs.Activity.{StandsBelow, value_at}
use Rattle.cip_problem.specs.Box.{Between, IsInBox, sides_at, box_inside}
use Rattle.cip_problem.specs.Points.{IsSatisfied}
use Rattle.cip_problem.specs.LinearProgram.{LinearProgram, IsProper, IsPoint, HasNoPoint, IsOptimal, IsRay, moved, HasPointBelow}
use Rattle.cip_problem.specs.Aggregate.{Part, IsPartOf, bound_row, HoldsAt, AllHoldAt, Inequality, Holds, IsAggregate, aggregate, bound_of, BoundsBy, Empties, implied_sides}
use Rattle.cip_problem.specs.Multipliers.{ArePartsOf, OnVariables, paired, UsesSides, SumsTo, combination}

-- a part of a row holds where the row is satisfied, and a part of a column's bounds at each point of the box
pub record PartsHold : Type 0 where
  pub row : (row : Row) (part : Part) (point : List ℚ) → IsPartOf row part → IsSatisfied row point → HoldsAt part point
  pub column : (box : List Sides) (column : ℕ) (part : Part) (point : List ℚ)
      → IsPartOf (bound_row column (sides_at box column)) part → IsInBox box point → HoldsAt part point
  pub program : (program : LinearProgram) (parts : List Part) (point : List ℚ)
      → ArePartsOf program parts → IsPoint program point → AllHoldAt parts point

-- an aggregated row holds at each point at which its parts hold; the row that is computed is one, and there is no other
pub record AggregatesHold : Type 0 where
  pub holds : (columns : ℕ) (parts : List Part) (row : Inequality) (point : List ℚ)
      → IsAggregate columns parts row → AllHoldAt parts point → Holds row point
  pub computed : (columns : ℕ) (parts : List Part)
      → AllByRecursion (λ part. StandsBelow columns part.terms) parts
      → IsAggregate columns parts (aggregate columns parts)
  pub unique : (columns : ℕ) (parts : List Part) (first second : Inequality)
      → IsAggregate columns parts first → IsAggregate columns parts second → first ≡ second

-- an inequality has a coefficient for each column of the box
abbrev Fits : Inequality → List Sides → Type 0
Fits row box = length row.coefficients ≡ length box

-- at each point of the box at which an inequality holds, costs come to at least its bound; it holds nowhere where it
-- empties the box; and each value lies between the sides that it implies
pub record BoundsHold : Type 0 where
  pub bound : (row : Inequality) (costs : List ℚ) (box : List Sides) (point : List ℚ) (b : ℚ)
      → Fits row box → length costs ≤ length box → IsInBox box point → Holds row point
      → bound_of row costs box ≡ Some b → b ≤ℚ dot costs point
  pub empty : (row : Inequality) (box : List Sides) (point : List ℚ)
      → Fits row box → IsInBox box point → Empties row box → ¬ Holds row point
  pub single : (row : Inequality) (box : List Sides) (point : List ℚ) (column : ℕ)
      → Fits row box → column < length box → IsInBox box point → Holds row point
      → Between (implied_sides row box column).low (implied_sides row box column).high (value_at point column)

-- what an inequality implies in a box, it implies in each box inside that too
pub record InnerBounds : Type 0 where
  pub bound : (row : Inequality) (costs : List ℚ) (inner outer : List Sides) (b : ℚ)
      → length inner ≡ length outer → box_inside inner outer ≡ true
      → bound_of row costs outer ≡ Some b → BoundsBy row costs inner b
  pub empty : (row : Inequality) (inner outer : List Sides)
      → length inner ≡ length outer → box_inside inner outer ≡ true → Empties row outer → Empties row inner

-- one multiplier for each column and each row, whose sum is the costs, and the sides that they use: the bound of the
-- combination is the multipliers' sum at these sides, at which they are parts of the program; so it is the optimum
-- where a point costs as much, and the program has no point where it is above 0 and the costs are 0
pub record MultipliersCertify : Type 0 where
  pub bound : (program : LinearProgram) (multipliers used : OnVariables) (costs : List ℚ)
      → IsProper program → UsesSides program multipliers used → length costs ≡ length program.bounds
      → SumsTo program multipliers costs
      → bound_of (aggregate (length program.bounds) (combination program multipliers used)) costs program.bounds
      ≡ Some (paired multipliers used)
  pub parts : (program : LinearProgram) (multipliers used : OnVariables)
      → UsesSides program multipliers used → ArePartsOf program (combination program multipliers used)
  pub optimal : (program : LinearProgram) (multipliers used : OnVariables) (point : List ℚ)
      → IsProper program → UsesSides program multipliers used → SumsTo program multipliers program.costs
      → IsPoint program point → dot program.costs point ≡ paired multipliers used
      → IsOptimal program point (paired multipliers used)
  pub no_point : (program : LinearProgram) (multipliers used : OnVariables)
      → IsProper program → UsesSides program multipliers used → SumsTo program multipliers []
      → zeroℚ <ℚ paired multipliers used → HasNoPoint program

-- from a point one may go any way along a ray, and the cost falls below each number
pub record RaysFall : Type 0 where
  pub points : (program : LinearProgram) (point direction : List ℚ) (far : ℚ)
      → IsPoint program point → IsRay program direction → zeroℚ ≤ℚ far → IsPoint program (moved point far direction)
  pub cost : (program : LinearProgram) (point direction : List ℚ) (far : ℚ)
      → dot program.costs (moved point far direction)
      ≡ dot program.costs point +ℚ far *ℚ dot program.costs direction
  pub unbounded : (program : LinearProgram) (point direction : List ℚ) (b : ℚ)
      → IsPoint program point → IsRay program direction → HasPointBelow program b
