-- One row of a dictionary in an exchange.
use Rattle.std.specs.Prelude.{◌≡◌, ℕ, ◌==◌, ◌<◌, Bool, ◌&&◌, not, true, false, List, [], length, Option, slice_index_or, if◌then◌else◌}
use Rattle.cip_rational.specs.Rational.{ℚ, is_zero}
use Rattle.cip_problem.specs.Activity.{value_at}
use Rattle.cip_bland.specs.Tables.{table, each}
use Rattle.cip_bland.specs.Exchange.{substituted}
use Rattle.cip_bland.specs.Operations.{Placed}
use Rattle.cip_bland.specs.MoveOperations.{substituted_operations}
use Rattle.cip_bland.specs.declared.places.Line.TheVariants.{Row}
use Rattle.cip_bland.specs.declared.moves.Stand.{Stand}
use Rattle.cip_dict.specs.declared.lists.Spelled.{Spelled}
use Rattle.cip_dict.specs.Lists.{basic_in}
use Rattle.cip_dict.specs.WholeLines.{IsSpelled}

-- whether the row of v changes when i leaves and j enters: v is basic, stays so, and has an entry on j
abbrev pub form_changes : List (Option Stand) → ℕ → ℕ → ℕ → List ℚ → Bool
form_changes standing i j v row = basic_in standing v && (not (v == i) && not (is_zero (value_at row j)))

-- its operations, if it is basic and stays so; `new` is the row of the variable that enters
abbrev pub form_operations_in : List (Option Stand) → ℕ → ℕ → ℚ → (ℕ → ℚ) → ℕ → List ℚ → List Placed
form_operations_in standing i j q new v row =
    if basic_in standing v && not (v == i)
    then each (length standing)
    (substituted_operations (Row v) (basic_in standing) i j q new (value_at row))
    else []

-- what is written for it over what stood there: the row with that of j put in its place, where it changes
abbrev pub written_form : List (Option Stand) → ℕ → ℕ → ℚ → (ℕ → ℚ) → ℕ → List ℚ → List ℚ → List ℚ
written_form standing i j q new v row out =
    if form_changes standing i j v row
    then table (length standing) (substituted (basic_in standing) i j q new (value_at row))
    else out

-- row v of a list of rows
abbrev pub row_in : List (List ℚ) → ℕ → List ℚ
row_in rows v = slice_index_or rows v []

-- each basic variable has a row with an entry for each variable, and the others none
abbrev pub row_length : List (Option Stand) → ℕ → ℕ
row_length standing v = if basic_in standing v then length standing else 0

pub record HasRows (standing : List (Option Stand)) (rows : List (List ℚ)) : Type 0 where
  pub each_one : length rows ≡ length standing
  pub long : (v : ℕ) → v < length standing → length (slice_index_or rows v []) ≡ row_length standing v

-- row v of a list after rows that change were taken from another
abbrev pub taken_form : List (Option Stand) → ℕ → ℕ → List (List ℚ) → List (List ℚ) → ℕ → List ℚ
taken_form standing i j rows other v =
    if form_changes standing i j v (row_in rows v) then row_in other v else row_in rows v

-- of each variable it is marked whether its row changes when i leaves and j enters
pub record AreMarked
    (standing : List (Option Stand)) (i j : ℕ) (rows : List (List ℚ)) (changed : List Bool) : Type 0 where
  pub each_one : length changed ≡ length standing
  pub changes : (v : ℕ) → v < length standing
      → slice_index_or changed v false ≡ form_changes standing i j v (row_in rows v)

-- how long the row of v is once i has left and j entered
abbrev pub after_length : List (Option Stand) → ℕ → ℕ → ℕ → ℕ
after_length standing i j v = if v == i then 0 else (if v == j then length standing else row_length standing v)

-- each basic variable has a row with an entry for each variable then, and the others none
pub record HasRowsAfter (standing : List (Option Stand)) (i j : ℕ) (rows : List (List ℚ)) : Type 0 where
  pub each_one : length rows ≡ length standing
  pub long : (v : ℕ) → v < length standing → length (row_in rows v) ≡ after_length standing i j v

-- these are the entries of a line, where that is said
abbrev pub HasSpelled : List ℚ → Spelled → Type 0
HasSpelled line spelled = spelled.is_done ≡ true → IsSpelled (length line) line spelled.entries.items
