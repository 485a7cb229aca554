-- What holds of the facts behind tokens without fault: their lists belong together, and forms have their numbers by
-- rising column.
use Rattle.std.specs.Prelude.{◌≡◌, ◌<◌, ◌≤◌, nat_lt, Bool, true, ◌&&◌, List, [], ◌∷◌, length, All, is_some}
use Rattle.std.specs.List.{list_all}
use Rattle.cip_problem.specs.Limits.{most_rows, most_columns, most_entries}
use Rattle.cip_problem.specs.Activity.{StandsBelow}
use Rattle.cip_text_rules.specs.LpFacts.{FormTerm, LpFacts}

-- the columns of a form rise
abbrev pub form_rises : List FormTerm → Bool
form_rises [] = true
form_rises (term ∷ terms) = list_all (λ other. nat_lt term.column other.column) terms && form_rises terms

-- the columns have costs, sides and whether they are whole, the rows names; none is too many, and a row that hasn't
-- ended has room; forms and rows stand on columns that are there, and the form in hand by rising column
pub record IsSoundLp (facts : LpFacts) : Type 0 where
  pub costs : length facts.costs ≡ length facts.column_names
  pub bounds : length facts.bounds ≡ length facts.column_names
  pub integral : length facts.integral ≡ length facts.column_names
  pub row_names : length facts.row_names ≡ length facts.rows
  pub few_columns : length facts.column_names ≤ most_columns
  pub few_rows : length facts.rows ≤ most_rows
  pub room : is_some facts.row_name ≡ true → length facts.rows < most_rows
  pub few_entries : facts.entries ≤ most_entries
  pub form : All (λ t. t.column < length facts.column_names) facts.form
  pub rising : form_rises facts.form ≡ true
  pub rows : All (λ row. StandsBelow (length facts.column_names) row.terms) facts.rows
