-- Rows that are dropped, and what is left of a program without them and without the columns that are gone.
use Rattle.std.specs.Prelude.{◌≡◌, ℕ, ◌≤◌, Bool, true, false, ◌&&◌, ◌||◌, List, [], ◌∷◌, Option, None, Some, length, map, slice_index_or}
use Rattle.std.specs.List.{AllByRecursion}
use Rattle.cip_rational.specs.Rational.{ℚ}
use Rattle.cip_problem.specs.Program.{Term, Row, Program}
use Rattle.cip_problem.specs.Activity.{StandsBelow}
use Rattle.cip_problem.specs.RowTerms.{AreTerms}
use Rattle.cip_problem.specs.WellFormed.{IsWellFormed}
use Rattle.cip_problem.specs.Limits.{most_columns}
use Rattle.cip_presolve.specs.EntriesLeft.{entries_left, new_numbers}

-- whether a row has no terms, and whether a side is open
abbrev pub has_no_terms : List Term → Bool
has_no_terms [] = true
has_no_terms (t ∷ ts) = false

abbrev pub is_open_side : Option ℚ → Bool
is_open_side None = true
is_open_side (Some side) = false

-- whether a row says nothing: it has no term and no side
abbrev pub says_nothing : Row → Bool
says_nothing row = has_no_terms row.terms && is_open_side row.low && is_open_side row.high

-- whether a term stands on a column that is gone
abbrev pub stands_on_gone : List Bool → List Term → Bool
stands_on_gone gone [] = false
stands_on_gone gone (t ∷ ts) = slice_index_or gone t.column false || stands_on_gone gone ts

-- whether a row is dropped: it says nothing, or stands on a column that is gone, whose form it gave
abbrev pub is_dropped : List Bool → Row → Bool
is_dropped gone row = says_nothing row || stands_on_gone gone row.terms

abbrev pub dropped_rows : List Bool → List Row → List Bool
dropped_rows gone rows = map (is_dropped gone) rows

-- the rows that stay
abbrev pub staying_rows : List Bool → List Row → List Row
staying_rows gone rows = entries_left (dropped_rows gone rows) rows

-- a row over these numbers of its columns
abbrev pub moved_term : List ℕ → Term → Term
moved_term numbers t = record t { column = slice_index_or numbers t.column 0 }

abbrev pub moved_row : List ℕ → Row → Row
moved_row numbers row = record row { terms = map (moved_term numbers) row.terms }

-- a row has a number for each of its columns, and its terms are a row's over these too
pub record CanMove (numbers : List ℕ) (row : Row) : Type 0 where
  pub stands : StandsBelow (length numbers) row.terms
  pub rise : AreTerms row.terms → AreTerms (map (moved_term numbers) row.terms)

abbrev pub AllMove : List ℕ → List Row → Type 0
AllMove numbers rows = AllByRecursion (CanMove numbers) rows

-- a draft as a program, with the names of another, without the columns that are gone and the rows that are dropped; and
-- this without any rows
abbrev pub left_program : Program → Program → List Bool → Program
left_program program draft gone = record {
  column_names = entries_left gone program.column_names;
  row_names = entries_left (dropped_rows gone draft.rows) program.row_names;
  rows = map (moved_row (new_numbers 0 gone)) (staying_rows gone draft.rows);
  costs = entries_left gone draft.costs;
  constant = draft.constant;
  maximized = program.maximized;
  integral = entries_left gone draft.integral;
  bounds = entries_left gone draft.bounds;
  choices = entries_left gone draft.choices;
}

abbrev pub left_columns : Program → Program → List Bool → Program
left_columns program draft gone = record (left_program program draft gone) { rows = [] }

-- the lists fit together, and so does what is left
pub record CanLeave (program draft : Program) (gone : List Bool) : Type 0 where
  pub columns : length gone ≡ length draft.bounds
  pub costs : length draft.costs ≡ length draft.bounds
  pub integral : length draft.integral ≡ length draft.bounds
  pub column_names : length gone ≡ length program.column_names
  pub row_names : length draft.rows ≡ length program.row_names
  pub few : length gone ≤ most_columns
  pub moves : AllMove (new_numbers 0 gone) (staying_rows gone draft.rows)
  pub formed : IsWellFormed (left_program program draft gone)
