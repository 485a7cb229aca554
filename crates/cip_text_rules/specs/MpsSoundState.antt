-- What a state keeps behind lines without fault: its lists belong together, and each row has its numbers by rising
-- column.
use Rattle.std.specs.Prelude.{◌≡◌, ℕ, ◌≤◌, nat_lt, Bool, true, ◌&&◌, List, [], ◌∷◌, length}
use Rattle.std.specs.List.{list_all}
use Rattle.cip_problem.specs.Limits.{most_rows, most_columns, most_entries}
use Rattle.cip_text_rules.specs.MpsState.{Held, RowRead, State}

-- the columns of these numbers are below one
abbrev pub held_below : ℕ → List Held → Bool
held_below column held = list_all (λ h. nat_lt h.column column) held

-- the columns of these numbers rise
abbrev pub rises : List Held → Bool
rises [] = true
rises (h ∷ others) = list_all (λ other. nat_lt h.column other.column) others && rises others

-- the numbers of a row stand on so many columns, by rising column
abbrev pub is_sound_row : ℕ → RowRead → Bool
is_sound_row columns row = held_below columns row.held && rises row.held

-- there is a row for each name of a row and a column for each name of a column, none is too many, and the rows have
-- their numbers by rising column
pub record IsSoundState (state : State) : Type 0 where
  pub as_many_rows : length state.rows ≡ length state.row_names
  pub as_many_columns : length state.columns ≡ length state.column_names
  pub few_rows : state.row_count ≤ most_rows
  pub few_columns : length state.column_names ≤ most_columns
  pub few_entries : state.entries ≤ most_entries
  pub rows : list_all (is_sound_row (length state.column_names)) state.rows ≡ true
