-- Points of a program: which are feasible, and what they cost (constraint integer programs; Achterberg 2007).
-- A point is a list of one value for each column. The module below has the laws.
use Rattle.std.specs.Prelude.{◌≡◌, Bool, true, List, if◌then◌else◌}
use Rattle.std.specs.List.{AllZip, AllByRecursion}
use Rattle.cip_rational.specs.Rational.{ℚ, ◌+ℚ◌, ◌≤ℚ◌, negate, IsWhole}
use Rattle.cip_rational.specs.Sums.{dot}
use Rattle.cip_problem.specs.Program.{Row, Program}
use Rattle.cip_problem.specs.Activity.{activity}
use Rattle.cip_problem.specs.Box.{Between, IsInBox}
use Rattle.cip_problem.specs.Choices.{KeepsChoices}

-- a row is satisfied: its sum of products lies between its sides
abbrev pub IsSatisfied : Row → List ℚ → Type 0
IsSatisfied row point = Between row.low row.high (activity row.terms point)

-- the columns that are to be whole have whole values
abbrev pub AreWhole : List Bool → List ℚ → Type 0
AreWhole integral point = AllZip (λ whole value. whole ≡ true → IsWhole value) integral point

-- a point is feasible: it keeps all bounds, whole columns have whole values, semi-continuous ones are 0 or lie between
-- their own sides, and all rows are satisfied
pub record IsFeasible (program : Program) (point : List ℚ) : Type 0 where
  pub within : IsInBox program.bounds point
  pub whole : AreWhole program.integral point
  pub choices : KeepsChoices program.choices point
  pub rows : AllByRecursion (λ row. IsSatisfied row point) program.rows

-- the cost of a point in the minimised form: the constant and the sum of products of costs and values
abbrev pub cost_of : Program → List ℚ → ℚ
cost_of program point = program.constant +ℚ dot program.costs point

-- a figure as it is printed: of a program that maximises it is negated again
abbrev pub printed : Program → ℚ → ℚ
printed program figure = if program.maximized then negate figure else figure

-- no feasible point costs less than b
abbrev pub IsLowerBound : Program → ℚ → Type 0
IsLowerBound program b = (point : List ℚ) → IsFeasible program point → b ≤ℚ cost_of program point
