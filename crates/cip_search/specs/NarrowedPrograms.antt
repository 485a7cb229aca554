-- Steps of presolve that leave all columns: a program is replaced by one whose points are points of it as they stand.
use Rattle.std.specs.Prelude.{◌≡◌, ℕ, true, List, slice_set}
use Rattle.std.specs.List.{AllZip, AllByRecursion}
use Rattle.cip_rational.specs.Rational.{ℚ}
use Rattle.cip_problem.specs.Program.{Sides, Row, Program}
use Rattle.cip_problem.specs.Box.{sides_inside}
use Rattle.cip_problem.specs.Points.{IsSatisfied, IsFeasible, cost_of}
use Rattle.cip_problem.specs.Reduced.{IsRelaxed}
use Rattle.cip_search.specs.Pairs.{HasNear}

-- all rows are satisfied
abbrev pub AllSatisfied : List Row → List ℚ → Type 0
AllSatisfied rows point = AllByRecursion (λ row. IsSatisfied row point) rows

-- a program is narrowed: it has the same columns, with bounds at least as strong, and a point that keeps its bounds and
-- rows keeps the other's rows, at equal cost
pub record IsTightened (program tightened : Program) : Type 0 where
  pub integral : tightened.integral ≡ program.integral
  pub choices : tightened.choices ≡ program.choices
  pub inside : AllZip (λ own outer. sides_inside own outer ≡ true) tightened.bounds program.bounds
  pub rows : (point : List ℚ) → IsRelaxed tightened point → AllSatisfied program.rows point
  pub cost : (point : List ℚ) → IsRelaxed tightened point → cost_of program point ≡ cost_of tightened point

-- a step: for each feasible point of the program the narrowed one has a feasible point that costs no more, with the
-- same value in each column that isn't held fast
pub record IsStep (program tightened : Program) : Type 0 where
  pub narrowed : IsTightened program tightened
  pub none_lost : (point : List ℚ) → IsFeasible program point → HasNear program tightened (λ column. column) point

-- an exact step: each feasible point of the program stays one
pub record IsExactStep (program tightened : Program) : Type 0 where
  pub narrowed : IsTightened program tightened
  pub keeps : (point : List ℚ) → IsFeasible program point → IsFeasible tightened point

-- no point is feasible
abbrev pub IsInfeasible : Program → Type 0
IsInfeasible program = (point : List ℚ) → ¬ IsFeasible program point

-- ---- what a step changes

-- a row is replaced by another
abbrev pub with_row : Program → ℕ → Row → Program
with_row program number row = record program { rows = slice_set program.rows number row }

-- the sides of a column are replaced by others
abbrev pub with_sides : Program → ℕ → Sides → Program
with_sides program column sides = record program { bounds = slice_set program.bounds column sides }

-- the cost of a column and the constant are replaced by others
abbrev pub with_cost : Program → ℕ → ℚ → ℚ → Program
with_cost program column cost constant =
    record program { costs = slice_set program.costs column cost; constant = constant }
