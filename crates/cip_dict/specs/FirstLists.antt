-- The lists of a first state.
use Rattle.std.specs.Prelude.{ℕ, ◌+◌, ◌-◌, nat_lt, List, [], ◌++◌, length, Option, None, Some, if◌then◌else◌}
use Rattle.cip_rational.specs.Rational.{ℚ, zeroℚ}
use Rattle.cip_problem.specs.Program.{Sides}
use Rattle.cip_problem.specs.Activity.{value_at}
use Rattle.cip_problem.specs.Box.{sides_at}
use Rattle.cip_bland.specs.Dictionary.{standing_value}
use Rattle.cip_bland.specs.FirstState.{first_stand, form_operations}
use Rattle.cip_bland.specs.Tables.{table, each, form}
use Rattle.cip_bland.specs.Operations.{Placed}
use Rattle.cip_bland.specs.declared.places.Line.TheVariants.{Row, Cost}
use Rattle.cip_dict.specs.Row.{row_in}
use Rattle.cip_dict.specs.Entries.{Entry, entry_from}
use Rattle.cip_bland.specs.declared.moves.Stand.{Stand}

-- where variable v stands: a column at a side or at 0, and a row is basic
abbrev pub stand_in : List Sides → ℕ → Option Stand
stand_in columns v = if nat_lt v (length columns) then Some (first_stand (sides_at columns v)) else None

-- the cost of variable k: that of a column, and 0 for a row
abbrev pub cost_in : List ℚ → ℕ → ℚ
cost_in costs k = if nat_lt k (length costs) then value_at costs k else zeroℚ

-- the value of column k where it stands at first
abbrev pub column_value : List Sides → ℕ → ℚ
column_value columns k = standing_value (sides_at columns k) (first_stand (sides_at columns k))

-- the value of row r, where the columns have these values
abbrev pub row_form : ℕ → List (List ℚ) → List ℚ → ℕ → ℚ
row_form columns rows at r = form columns (value_at (row_in rows (columns + r))) (value_at at)

-- its operations
abbrev pub row_operations : ℕ → List (List ℚ) → List ℚ → ℕ → List Placed
row_operations columns rows at r =
    form_operations (Row (columns + r)) columns (value_at (row_in rows (columns + r))) (value_at at)

-- the row of variable v, by entries on so many columns and rows: none for a column, and for a row its coefficients on
-- the columns and 0 on the rows
abbrev pub row_of_entries : ℕ → ℕ → List Entry → ℕ → List ℚ
row_of_entries columns rows entries v =
    if nat_lt v columns then []
    else table (columns + rows)
    (λ k. if nat_lt k columns then entry_from zeroℚ entries (v - columns) k else zeroℚ)

-- the values of the columns
abbrev pub column_values_of : List Sides → List ℚ
column_values_of columns = table (length columns) (column_value columns)

-- the operations of the values of m rows and of the cost, where the columns have these values
abbrev pub value_operations_at : ℕ → ℕ → List (List ℚ) → List ℚ → List ℚ → List Placed
value_operations_at columns m rows costs at =
    each m (row_operations columns rows at) ++ form_operations Cost columns (value_at costs) (value_at at)

-- where they have those that they begin with
abbrev pub value_operations : List Sides → ℕ → List (List ℚ) → List ℚ → List Placed
value_operations columns m rows costs =
    value_operations_at (length columns) m rows costs (column_values_of columns)
