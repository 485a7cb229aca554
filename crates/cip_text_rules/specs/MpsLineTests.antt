-- The tests of each kind of line: of all rules those that such a line can break, by rising kind.
use Rattle.std.specs.Prelude.{ℕ, ◌+◌, Bool, not, ◌&&◌, ◌||◌, nat_le, nat_lt, List, [], ◌∷◌, length, map, None, is_none}
use Rattle.std.specs.List.{list_any}
use Rattle.cip_problem.specs.Limits.{most_rows, most_columns, longest_name, most_entries}
use Rattle.cip_rational.specs.Numeral.{Numeral}
use Rattle.cip_text_rules.specs.MpsWords.{Part, Rows, Columns, End, RowKind, BoundKind, number_in, is_in, is_no_number, is_huge, is_too_fine, sense_of}
use Rattle.cip_text_rules.specs.MpsSayings.{Value, Opens, ColumnLine}
use Rattle.cip_text_rules.specs.MpsFacts.{coefficients_in, sense_words_in}
use Rattle.cip_text_rules.specs.MpsBounds.{settled, lacks_sides}
use Rattle.cip_text_rules.specs.MpsProgram.{is_free}
use Rattle.cip_text_rules.specs.MpsRules.{Rule, rule, stands_behind, is_opened, has_many_words, has_twins, is_before_last, is_no_bound, is_mixed_by, entry_count}
use Rattle.cip_text_rules.specs.MpsState.{State, row_at, column_at, value_for}
use Rattle.cip_text_rules.specs.MpsSteps.{overflows_with, holds, has_right_side, has_range, is_free_at}

-- ---- section lines

-- a section that isn't ENDATA
abbrev pub opening_tests : State → Part → (words : List (List ℕ)) → List Rule
opening_tests state part words =
    rule 2 (list_any (stands_behind part) state.opened)
    ∷ rule 4 (has_many_words part words)
    ∷ rule 21 (list_any (λ word. is_none (sense_of word)) (sense_words_in (Opens part words)))
    ∷ []

-- the line ENDATA
abbrev pub end_tests : State → (words : List (List ℕ)) → List Rule
end_tests state words =
    rule 2 (list_any (stands_behind End) state.opened)
    ∷ rule 3 (not (is_opened state.opened Rows && is_opened state.opened Columns))
    ∷ rule 4 (nat_lt 0 (length words))
    ∷ rule 16 (not (list_any is_free (map (λ row. row.kind) state.rows)))
    ∷ rule 21 (list_any lacks_sides (map settled state.columns))
    ∷ []

-- ---- lines of OBJSENSE and ROWS

-- a sense
abbrev pub sense_tests : (word : List ℕ) → List Rule
sense_tests word = rule 21 (is_none (sense_of word)) ∷ []

-- a row with one of the four types
abbrev pub row_tests : State → RowKind → (name : List ℕ) → List Rule
row_tests state kind name =
    rule 10 (is_in state.row_names name)
    ∷ rule 18 (not (is_free kind) && nat_le most_rows state.row_count)
    ∷ rule 19 (nat_lt longest_name (length name))
    ∷ []

-- ---- lines with values

-- the numbers of values
abbrev pub numbers_of : List Value → List Numeral
numbers_of values = map (λ value. value.number) values

-- a value above the range, and one of a row that wasn't given
abbrev pub has_huge : List Value → Bool
has_huge values = list_any (λ value. is_huge value.number) values

-- a value for a row that wasn't given
abbrev pub has_unknown : State → List Value → Bool
has_unknown state values = list_any (λ value. not (is_in state.row_names value.row)) values

-- a column too many, and a number too many
abbrev pub is_full : State → (column : List ℕ) → (whole : Bool) → List Value → Bool
is_full state column whole values =
    (not (is_in state.column_names column) && nat_le most_columns (length state.column_names))
    || nat_lt most_entries (state.entries + entry_count (coefficients_in (ColumnLine column whole values)))

-- a line of COLUMNS
abbrev pub column_tests : State → (column : List ℕ) → (whole : Bool) → List Value → List Rule
column_tests state column whole values =
    rule 5 (list_any is_no_number (numbers_of values))
    ∷ rule 6 (has_huge values)
    ∷ rule 7 (list_any is_too_fine (numbers_of values))
    ∷ rule 8 (has_unknown state values)
    ∷ rule 11
    (list_any (λ value. holds (number_in state.column_names column) (row_at state value.row)) values
    || has_twins values)
    ∷ rule 12 (is_before_last (number_in state.column_names column) (length state.column_names))
    ∷ rule 18 (is_full state column whole values)
    ∷ rule 19 (nat_lt longest_name (length column))
    ∷ []

-- a line of RHS
abbrev pub right_side_tests : State → List Value → List Rule
right_side_tests state values =
    rule 5 (list_any is_no_number (numbers_of values))
    ∷ rule 6
    (has_huge values
    || list_any (λ value. overflows_with (value_for values value.row) None (row_at state value.row)) values)
    ∷ rule 7 (list_any is_too_fine (numbers_of values))
    ∷ rule 8 (has_unknown state values)
    ∷ rule 11 (list_any (λ value. has_right_side (row_at state value.row)) values || has_twins values)
    ∷ []

-- a line of RANGES
abbrev pub range_tests : State → List Value → List Rule
range_tests state values =
    rule 5 (list_any is_no_number (numbers_of values))
    ∷ rule 6
    (has_huge values
    || list_any (λ value. overflows_with None (value_for values value.row) (row_at state value.row)) values)
    ∷ rule 7 (list_any is_too_fine (numbers_of values))
    ∷ rule 8 (has_unknown state values)
    ∷ rule 11 (list_any (λ value. has_range (row_at state value.row)) values || has_twins values)
    ∷ rule 20 (list_any (λ value. is_free_at (row_at state value.row)) values)
    ∷ []

-- a line of BOUNDS
abbrev pub bound_tests : State → BoundKind → (column : List ℕ) → Numeral → List Rule
bound_tests state kind column value =
    rule 5 (is_no_number value)
    ∷ rule 7 (is_too_fine value)
    ∷ rule 9 (not (is_in state.column_names column))
    ∷ rule 21 (is_no_bound kind value || is_mixed_by kind value (column_at state column))
    ∷ []
