-- The first state of a linear program given by its rows, a box and the costs.
use Rattle.std.specs.Prelude.{◌≡◌, ℕ, List, length, map, Some, slice_get, slice_index_or}
use Rattle.cip_rational.specs.Rational.{ℚ}
use Rattle.cip_rational.specs.Sums.{dot}
use Rattle.cip_problem.specs.Program.{Term, Row, no_row}
use Rattle.cip_problem.specs.Activity.{activity, value_at}
use Rattle.cip_problem.specs.LinearProgram.{LinearProgram}
use Rattle.cip_problem.specs.Aggregate.{coefficient_on}
use Rattle.cip_problem.specs.Multipliers.{row_sides}
use Rattle.cip_bland.specs.Tables.{form}
use Rattle.cip_bland.specs.Dictionary.{Dictionary}
use Rattle.cip_bland.specs.FirstState.{System, first}

-- the terms of a row, by its number
abbrev pub terms_at : List Row → ℕ → List Term
terms_at rows r = (slice_index_or rows r no_row).terms

-- what a first state takes of a linear program
abbrev pub system_of : LinearProgram → System
system_of program = record {
  columns = program.bounds;
  rows = map row_sides program.rows;
  coefficient = λ r k. coefficient_on (terms_at program.rows r) k;
  costs = λ k. value_at program.costs k;
}

-- its first state
abbrev pub first_of_program : LinearProgram → Dictionary
first_of_program program = first (system_of program)

-- the forms of that system are the activities of the rows and the cost: so the numbers of a point are its values and,
-- after them, its activities
pub record TellsProgram (program : LinearProgram) : Type 0 where
  pub activities : (point : List ℚ) (r : ℕ) (row : Row) → slice_get program.rows r ≡ Some row
      → form (length program.bounds) ((system_of program).coefficient r) (value_at point) ≡ activity row.terms point
  pub cost : (point : List ℚ) → length point ≡ length program.bounds
      → form (length program.bounds) (system_of program).costs (value_at point) ≡ dot program.costs point
