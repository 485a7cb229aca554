-- Linear programs: rows, a box, and a cost for each column, without whole columns and without a constant.
use Rattle.std.specs.Prelude.{◌≡◌, List, length, Option, IfSome, All}
use Rattle.std.specs.List.{AllZip, AllByRecursion}
use Rattle.cip_rational.specs.Rational.{ℚ, zeroℚ, ◌≤ℚ◌, ◌<ℚ◌}
use Rattle.cip_rational.specs.Sums.{dot, add_lists, scale_list}
use Rattle.cip_problem.specs.Program.{Sides, Row}
use Rattle.cip_problem.specs.Activity.{activity, StandsBelow}
use Rattle.cip_problem.specs.Box.{IsInBox}
use Rattle.cip_problem.specs.Points.{IsSatisfied}

-- the rows, the sides of each column, and what each column costs
pub record LinearProgram : Type 0 where
  pub rows : List Row
  pub bounds : List Sides
  pub costs : List ℚ

-- each column has a cost, and each row stands on columns of the program
pub record IsProper (program : LinearProgram) : Type 0 where
  pub costs : length program.costs ≡ length program.bounds
  pub rows : All (λ row. StandsBelow (length program.bounds) row.terms) program.rows

-- a point keeps all bounds and satisfies all rows
pub record IsPoint (program : LinearProgram) (point : List ℚ) : Type 0 where
  pub within : IsInBox program.bounds point
  pub rows : AllByRecursion (λ row. IsSatisfied row point) program.rows

-- no list of values is a point
abbrev pub HasNoPoint : LinearProgram → Type 0
HasNoPoint program = (point : List ℚ) → ¬ IsPoint program point

-- no point costs less than b
abbrev pub CostsAtLeast : LinearProgram → ℚ → Type 0
CostsAtLeast program b = (point : List ℚ) → IsPoint program point → b ≤ℚ dot program.costs point

-- a point has this cost, and no point costs less
pub record IsOptimal (program : LinearProgram) (point : List ℚ) (cost : ℚ) : Type 0 where
  pub is_point : IsPoint program point
  pub cost_is : dot program.costs point ≡ cost
  pub least : CostsAtLeast program cost

-- ---- directions

-- a value may change by this, any number of times, and stay between the sides: it doesn't fall where there is a low
-- side, and doesn't rise where there is a high one
pub record StaysBetween (low high : Option ℚ) (change : ℚ) : Type 0 where
  pub not_down : IfSome low (λ _. zeroℚ ≤ℚ change)
  pub not_up : IfSome high (λ _. change ≤ℚ zeroℚ)

-- a direction in which each bound and each row is kept, however far one goes, and in which the cost falls
pub record IsRay (program : LinearProgram) (direction : List ℚ) : Type 0 where
  pub within : AllZip (λ sides change. StaysBetween sides.low sides.high change) program.bounds direction
  pub rows : AllByRecursion (λ row. StaysBetween row.low row.high (activity row.terms direction)) program.rows
  pub falls : dot program.costs direction <ℚ zeroℚ

-- the point that is reached by going so far in a direction
abbrev pub moved : List ℚ → ℚ → List ℚ → List ℚ
moved point far direction = add_lists point (scale_list far direction)

-- some point costs less than b
pub record HasPointBelow (program : LinearProgram) (b : ℚ) : Type 0 where
  pub point : List ℚ
  pub is_point : IsPoint program point
  pub cheaper : dot program.costs point <ℚ b
