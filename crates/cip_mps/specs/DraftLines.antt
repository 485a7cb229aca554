-- The tests of lines, by what the code reads.
--     row_line_tests state kind name      those of a line of ROWS
--     section_tests state part words      those of a section line
--     column_rules state column values      those of a line of COLUMNS, wherever it stands
use Rattle.std.specs.Prelude.{ℕ, ◌+◌, ◌&&◌, ◌||◌, Bool, true, not, nat_lt, nat_le, List, [], ◌∷◌, length, Option, None, Some}
use Rattle.std.specs.List.{filter, list_any}
use Rattle.cip_problem.specs.Limits.{most_columns, most_entries, longest_name}
use Rattle.cip_text_rules.specs.MpsWords.{Part, Sense, End, RowKind, sense_of, number_in, is_in, is_zero, is_no_number, is_too_fine}
use Rattle.cip_text_rules.specs.MpsSayings.{Value}
use Rattle.cip_text_rules.specs.MpsRules.{Rule, rule, has_twins, is_before_last}
use Rattle.cip_text_rules.specs.MpsState.{State, row_at}
use Rattle.cip_text_rules.specs.MpsSteps.{holds}
use Rattle.cip_text_rules.specs.MpsLineTests.{opening_tests, end_tests, row_tests, numbers_of, has_huge, has_unknown}

-- a line of ROWS, whose type may be none of the four
abbrev pub row_line_tests : State → Option RowKind → (name : List ℕ) → List Rule
row_line_tests state None name = rule 10 (is_in state.row_names name) ∷ rule 13 true ∷ []
row_line_tests state (Some kind) name = row_tests state kind name

-- a section line
abbrev pub section_tests : State → Part → (words : List (List ℕ)) → List Rule
section_tests state End words = end_tests state words
section_tests state part words = opening_tests state part words

-- the word that says the sense, on a section line
abbrev pub sense_said_on : Part → (words : List (List ℕ)) → Option Bool
sense_said_on Sense [] = None
sense_said_on Sense (word ∷ words) = sense_of word
sense_said_on part words = None

-- how many values aren't 0
abbrev pub entries_in : List Value → ℕ
entries_in values = length (filter (λ value. not (is_zero value.number)) values)

-- a column too many, or a number too many
abbrev pub is_over : State → (column : List ℕ) → List Value → Bool
is_over state column values =
    (not (is_in state.column_names column) && nat_le most_columns (length state.column_names))
    || nat_lt most_entries (state.entries + entries_in values)

-- a line of COLUMNS
abbrev pub column_rules : State → (column : List ℕ) → List Value → List Rule
column_rules state column values =
    rule 5 (list_any is_no_number (numbers_of values))
    ∷ rule 6 (has_huge values)
    ∷ rule 7 (list_any is_too_fine (numbers_of values))
    ∷ rule 8 (has_unknown state values)
    ∷ rule 11
    (list_any (λ value. holds (number_in state.column_names column) (row_at state value.row)) values
    || has_twins values)
    ∷ rule 12 (is_before_last (number_in state.column_names column) (length state.column_names))
    ∷ rule 18 (is_over state column values)
    ∷ rule 19 (nat_lt longest_name (length column))
    ∷ []
