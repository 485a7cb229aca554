-- The first state of a linear program: each row is basic, and each column stands at its low side, else at its high
-- side, else at 0. Of the program it takes the sides of columns and rows, the coefficient of each row and column, and
-- the costs.
use Rattle.std.specs.Prelude.{◌≡◌, ℕ, ◌+◌, ◌-◌, ◌<◌, Bool, nat_lt, List, [], ◌++◌, length, Option, None, Some, if◌then◌else◌}
use Rattle.cip_rational.specs.Rational.{ℚ, zeroℚ}
use Rattle.cip_problem.specs.Program.{Sides}
use Rattle.cip_problem.specs.Activity.{value_at}
use Rattle.cip_problem.specs.Box.{sides_at}
use Rattle.cip_bland.specs.Tables.{table, each, form}
use Rattle.cip_bland.specs.Dictionary.{Dictionary, standing_value}
use Rattle.cip_bland.specs.Operations.{Placed, value_place, sum_at}
use Rattle.cip_bland.specs.declared.moves.Stand.{Stand}
use Rattle.cip_bland.specs.declared.moves.Stand.TheVariants.{Low, High, Zero}
use Rattle.cip_bland.specs.declared.places.Line.{Line}
use Rattle.cip_bland.specs.declared.places.Line.TheVariants.{Row, Cost}

-- A linear program: the sides of its columns and rows, the coefficient of a row, by its number, on a column, and the
-- cost of a column.
pub record System : Type 0 where
  pub columns : List Sides
  pub rows : List Sides
  pub coefficient : ℕ → ℕ → ℚ
  pub costs : ℕ → ℚ

-- where a column with these sides stands at first
abbrev pub stand_with : Option ℚ → Option ℚ → Stand
stand_with (Some low) high = Low
stand_with None (Some high) = High
stand_with None None = Zero

abbrev pub first_stand : Sides → Stand
first_stand sides = stand_with sides.low sides.high

-- the value of a column there
abbrev pub first_value : System → ℕ → ℚ
first_value p k = standing_value (sides_at p.columns k) (first_stand (sides_at p.columns k))

-- how many columns and how many variables there are
abbrev pub columns_of : System → ℕ
columns_of p = length p.columns

abbrev pub variables_of : System → ℕ
variables_of p = length p.columns + length p.rows

-- whether a variable is a column
abbrev pub is_column : System → ℕ → Bool
is_column p v = nat_lt v (columns_of p)

-- the row of a variable's number
abbrev pub row_number : System → ℕ → ℕ
row_number p v = v - columns_of p

-- what stands on the columns, and 0 on the rows
abbrev pub on_columns : System → (ℕ → ℚ) → ℕ → ℚ
on_columns p f k = if is_column p k then f k else zeroℚ

-- the first state
unfoldable pub first : System → Dictionary
first p = record {
  sides = p.columns ++ p.rows;
  standing =
      table (variables_of p) (λ v. if is_column p v then Some (first_stand (sides_at p.columns v)) else None);
  rows =
      table (variables_of p)
      (λ v. if is_column p v then []
      else table (variables_of p) (on_columns p (p.coefficient (row_number p v))));
  costs = table (variables_of p) (on_columns p p.costs);
  values =
      table (variables_of p)
      (λ v. if is_column p v then first_value p v
      else form (columns_of p) (p.coefficient (row_number p v)) (first_value p));
  cost = form (columns_of p) p.costs (first_value p);
}

-- the operations of the value of a line: by rising column its product, and then the sum so far with it
abbrev pub form_operations : Line → ℕ → (ℕ → ℚ) → (ℕ → ℚ) → List Placed
form_operations line n row x = each n (λ k. sum_at (value_place line) (form k row x) (row k) (x k))

-- the operations of the first state: the values of the rows, by rising number, and then the cost
abbrev pub first_operations : System → List Placed
first_operations p =
    each (length p.rows)
    (λ r. form_operations (Row (columns_of p + r)) (columns_of p) (p.coefficient r) (first_value p))
    ++ form_operations Cost (columns_of p) p.costs (first_value p)

-- numbers for the variables at which each row is the sum of its products
abbrev pub AreActivities : System → (ℕ → ℚ) → Type 0
AreActivities p x =
    (r : ℕ) → r < length p.rows → x (columns_of p + r) ≡ form (columns_of p) (p.coefficient r) x

-- the numbers of a point: its values, and after them the sums of the rows
abbrev pub extended : System → List ℚ → ℕ → ℚ
extended p x v =
    if is_column p v then value_at x v else form (columns_of p) (p.coefficient (row_number p v)) (value_at x)
