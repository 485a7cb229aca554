-- What a verdict says of a program and a point, and what a bound says of a box. The modules below have the laws.
use Rattle.std.specs.Prelude.{◌≡◌, ℕ, ◌<◌, true, List, Option, None, Some, IsErr, slice_get, ⊤}
use Rattle.cip_rational.specs.Rational.{ℚ, zeroℚ, IsWhole}
use Rattle.cip_problem.specs.Program.{Sides, Row, Choice, Program}
use Rattle.cip_problem.specs.Activity.{activity, value_at}
use Rattle.cip_problem.specs.Box.{Between, sides_at}
use Rattle.cip_problem.specs.Choices.{choice_at, Allows}
use Rattle.cip_problem.specs.Points.{IsSatisfied, IsFeasible, cost_of}
use Rattle.cip_problem.specs.WellFormed.{columns}
use Rattle.cip_frac.specs.Outcomes.{dot_from}
use Rattle.cip_lin.specs.RowSums.{activity_from}
use Rattle.cip_lin.specs.declared.outcomes.Least.{Least}
use Rattle.cip_lin.specs.declared.outcomes.Least.TheVariants.{Value, NoBound, Wide as TooWide}
use Rattle.cip_model.specs.declared.verdicts.Place.{Place}
use Rattle.cip_model.specs.declared.verdicts.Place.TheVariants.{Row as AtRow, Cost}
use Rattle.cip_model.specs.declared.verdicts.Verdict.{Verdict}
use Rattle.cip_model.specs.declared.verdicts.Verdict.TheVariants.{Feasible, BreaksBound, BreaksWhole, BreaksRow, Wide}

-- a value lies between the sides, and the choice allows it
pub record IsKept (sides : Sides) (choice : Choice) (value : ℚ) : Type 0 where
  pub between : Between sides.low sides.high value
  pub allowed : Allows choice value

-- the value of a column is not between its sides, or it isn't allowed by the column's choice
pub record IsOutside (program : Program) (point : List ℚ) (column : ℕ) : Type 0 where
  pub is_column : column < columns program
  pub outside : ¬ IsKept (sides_at program.bounds column) (choice_at program.choices column) (value_at point column)

-- a column is to be whole, and its value is fractional
pub record IsFractional (program : Program) (point : List ℚ) (column : ℕ) : Type 0 where
  pub integral : slice_get program.integral column ≡ Some true
  pub not_whole : ¬ IsWhole (value_at point column)

-- the row of this number has this activity, and is not satisfied
pub record IsBroken (rows : List Row) (point : List ℚ) (number : ℕ) (value : ℚ) : Type 0 where
  pub row : Row
  pub is_row : slice_get rows number ≡ Some row
  pub is_activity : value ≡ activity row.terms point
  pub broken : ¬ IsSatisfied row point

-- an operation overflows when the activity of the row of this number is summed up in the order of its terms
pub record RowOverflows (rows : List Row) (point : List ℚ) (number : ℕ) : Type 0 where
  pub row : Row
  pub is_row : slice_get rows number ≡ Some row
  pub overflows : IsErr (activity_from zeroℚ row.terms point)

-- an operation overflows there, in the sum of a row or in that of the cost
abbrev pub Overflows : Program → List ℚ → Place → Type 0
Overflows program point (AtRow number) = RowOverflows program.rows point number
Overflows program point Cost = IsErr (dot_from program.constant program.costs point)

-- what a verdict says
abbrev pub VerdictHolds : Program → List ℚ → Verdict → Type 0
VerdictHolds program point (Feasible cost) = IsFeasible program point × (cost ≡ cost_of program point)
VerdictHolds program point (BreaksBound column) = IsOutside program point column
VerdictHolds program point (BreaksWhole column) = IsFractional program point column
VerdictHolds program point (BreaksRow number value) = IsBroken program.rows point number value
VerdictHolds program point (Wide place) = Overflows program point place

-- what an answer says of the box bound: its value, that there is none, or nothing
abbrev pub BoundHolds : Option ℚ → Least → Type 0
BoundHolds bound (Value v) = bound ≡ Some v
BoundHolds bound NoBound = bound ≡ None
BoundHolds bound TooWide = ⊤
