-- The words of lines of RHS, RANGES and BOUNDS, cut into the set and what stands behind it.
use Rattle.std.specs.Prelude.{ℕ, List, [], ◌∷◌, Option, None, Some}
use Rattle.cip_text_rules.specs.MpsSayings.{Value, one_value, two_values}

-- this set and the values of `row value [row value]`
abbrev pub values_in_set : (set_name : List ℕ) → List (List ℕ) → Option (List ℕ × List Value)
values_in_set set_name (row ∷ text ∷ []) = Some (set_name, one_value row text)
values_in_set set_name (row ∷ text ∷ other_row ∷ other_text ∷ []) =
    Some (set_name, two_values row text other_row other_text)
values_in_set set_name words = None

-- the set and the values of `[set] row value [row value]`; the set without a name, where none is named
abbrev pub set_values : List (List ℕ) → Option (List ℕ × List Value)
set_values (row ∷ text ∷ []) = Some ([], one_value row text)
set_values (set_name ∷ row ∷ text ∷ []) = Some (set_name, one_value row text)
set_values (row ∷ text ∷ other_row ∷ other_text ∷ []) = Some ([], two_values row text other_row other_text)
set_values (set_name ∷ row ∷ text ∷ other_row ∷ other_text ∷ []) =
    Some (set_name, two_values row text other_row other_text)
set_values words = None

-- the set and the column of `[set] column`, or `set column value`
abbrev pub set_column : List (List ℕ) → Option (List ℕ × List ℕ)
set_column (column ∷ []) = Some ([], column)
set_column (set_name ∷ column ∷ []) = Some (set_name, column)
set_column (set_name ∷ column ∷ text ∷ []) = Some (set_name, column)
set_column words = None
