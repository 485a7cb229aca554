-- What is wrong with a line of free MPS, one rule for each kind of fault: it looks at what the lines before have said,
-- and at what this line says. At a line the least kind counts whose rule is broken.
--     rules facts saying      the rules, by rising kind; kind 17, no ENDATA, is that of a text
--     fault_of facts saying      the least kind that is broken
use Rattle.std.specs.Prelude.{ℕ, ◌+◌, ◌==◌, nat_lt, nat_le, Bool, true, false, not, ◌&&◌, ◌||◌, if◌then◌else◌, List, [], ◌∷◌, ◌++◌, length, map, Option, None, Some, is_none}
use Rattle.std.specs.List.{filter, list_any}
use Rattle.std.specs.Option.{option_map}
use Rattle.std.specs.Str.{bytes_eq}
use Rattle.cip_rational.specs.Rational.{ℚ}
use Rattle.cip_rational.specs.Range.{sum_overflows, difference_overflows}
use Rattle.cip_text_rules.specs.Limits.{most_rows, most_columns, longest_name, most_entries}
use Rattle.cip_rational.specs.Numeral.{Numeral}
use Rattle.cip_text_rules.specs.MpsWords.{Part, Title, Sense, Rows, Columns, End, RowKind, BoundKind, Low, High, Fixed, WholeLow, WholeHigh, SemiContinuous, rank, part_number, is_in, number_in, is_zero, is_negative, is_positive, is_no_number, is_huge, is_too_fine, sense_of}
use Rattle.cip_text_rules.specs.MpsSayings.{Value, Saying, UnknownSection, Opens, Misplaced, Miscounted, RowLine, ColumnLine, BadMarker, RightSideLine, RangeLine, BoundLine, BadBound}
use Rattle.cip_text_rules.specs.MpsFacts.{GivenRow, GivenColumn, Coefficient, Facts, row_names, column_names, coefficients_in, right_sides_in, ranges_in, sense_words_in}
use Rattle.cip_text_rules.specs.MpsBounds.{Bounded, with_bound, bounds_so_far, all_bounds, lacks_sides, is_mixed}
use Rattle.cip_text_rules.specs.MpsProgram.{is_free, constraints, moves_low, unsigned, number, right_side, first_value}

-- a kind of fault, and whether its rule is broken
pub record Rule : Type 0 where
  pub kind : ℕ
  pub broken : Bool

-- the rule of a kind
abbrev pub rule : ℕ → Bool → Rule
rule kind broken = record { kind = kind; broken = broken }

-- the first kind that is broken
abbrev pub least : List Rule → Option ℕ
least [] = None
least (r ∷ others) = if r.broken then Some r.kind else least others

-- ---- parts of a line

-- the values of a line
abbrev pub values_in : Saying → List Value
values_in (ColumnLine column whole values) = values
values_in (RightSideLine set_name values) = values
values_in (RangeLine set_name values) = values
values_in other = []

-- the numbers of a line
abbrev pub numbers_in : Saying → List Numeral
numbers_in (BoundLine kind set_name column value) = value ∷ []
numbers_in other = map (λ value. value.number) (values_in other)

-- the row of a name, if it was given
abbrev pub row_in : List GivenRow → List ℕ → Option GivenRow
row_in [] name = None
row_in (row ∷ rows) name = if bytes_eq name row.name then Some row else row_in rows name

-- ---- sections: kinds 1 to 4

-- a section line whose word is no section
abbrev pub is_unknown_section : Saying → Bool
is_unknown_section UnknownSection = true
is_unknown_section other = false

-- a section that was opened is this one, or has its place behind it
abbrev pub stands_behind : Part → Part → Bool
stands_behind part before = part_number before == part_number part || nat_lt (rank part) (rank before)

-- a section that is opened again or too late, or a line of fields where none may stand
abbrev pub is_out_of_order : List Part → Saying → Bool
is_out_of_order opened (Opens part words) = list_any (stands_behind part) opened
is_out_of_order opened Misplaced = true
is_out_of_order opened other = false

-- the line ENDATA
abbrev pub is_end : Saying → Bool
is_end (Opens End words) = true
is_end other = false

-- a section that was opened
abbrev pub is_opened : List Part → Part → Bool
is_opened opened part = list_any (λ before. part_number before == part_number part) opened

-- ENDATA without ROWS or COLUMNS
abbrev pub lacks_section : List Part → Saying → Bool
lacks_section opened now = is_end now && not (is_opened opened Rows && is_opened opened Columns)

-- how many words a section line may have behind its first: any after NAME, a sense after OBJSENSE, else none
abbrev pub has_many_words : Part → List (List ℕ) → Bool
has_many_words Title words = false
has_many_words Sense words = nat_lt 1 (length words)
has_many_words other words = nat_lt 0 (length words)

-- a wrong number of words or fields
abbrev pub is_miscounted : Saying → Bool
is_miscounted (Opens part words) = has_many_words part words
is_miscounted Miscounted = true
is_miscounted other = false

-- ---- numbers: kinds 5 to 7

-- a number above 2^127-1; as a bound it is none
abbrev pub has_huge_value : Saying → Bool
has_huge_value now = list_any (λ value. is_huge value.number) (values_in now)

-- the side that RANGES moves can't be formed in the range of the numbers that are kept
abbrev pub side_overflows : RowKind → ℚ → Option Numeral → Bool
side_overflows kind right_side None = false
side_overflows kind right_side (Some range) =
    not (is_free kind)
    && (if moves_low kind range then difference_overflows right_side (number (unsigned range))
    else sum_overflows right_side (number (unsigned range)))

-- a row with such a side
abbrev pub row_overflows : (right_sides ranges : List Value) → Option GivenRow → Bool
row_overflows right_sides ranges None = false
row_overflows right_sides ranges (Some row) =
    side_overflows row.kind (right_side right_sides row.name) (first_value ranges row.name)

-- the row of a value has such a side
abbrev pub has_wide_row : List GivenRow → (right_sides ranges : List Value) → Value → Bool
has_wide_row rows right_sides ranges value = row_overflows right_sides ranges (row_in rows value.row)

-- a row that a line of RHS or RANGES names has such a side, by the values up to and with this line
abbrev pub has_wide_side : Facts → Saying → Bool
has_wide_side facts now =
    list_any (has_wide_row facts.rows (facts.right_sides ++ right_sides_in now) (facts.ranges ++ ranges_in now))
    (right_sides_in now ++ ranges_in now)

-- ---- names: kinds 8 to 12

-- a value for a row that wasn't given
abbrev pub names_unknown_row : (rows : List (List ℕ)) → Saying → Bool
names_unknown_row rows now = list_any (λ value. not (is_in rows value.row)) (values_in now)

-- a bound of a column that wasn't given
abbrev pub names_unknown_column : (columns : List (List ℕ)) → Saying → Bool
names_unknown_column columns (BoundLine kind set_name column value) = not (is_in columns column)
names_unknown_column columns other = false

-- a row that was given before
abbrev pub repeats_row : (rows : List (List ℕ)) → Saying → Bool
repeats_row rows (RowLine kind name) = is_in rows name
repeats_row rows other = false

-- two of the values name one row
abbrev pub has_twins : List Value → Bool
has_twins [] = false
has_twins (value ∷ values) = list_any (λ other. bytes_eq value.row other.row) values || has_twins values

-- a row has a number in this column
abbrev pub has_coefficient : List Coefficient → (column row : List ℕ) → Bool
has_coefficient entries column row =
    list_any (λ entry. bytes_eq row entry.row && bytes_eq column entry.column) entries

-- a row has one of these values
abbrev pub has_value_for : List Value → List ℕ → Bool
has_value_for values row = list_any (λ value. bytes_eq row value.row) values

-- a second value for a row in one column, in RHS or in RANGES
abbrev pub repeats_value : Facts → Saying → Bool
repeats_value facts (ColumnLine column whole values) =
    list_any (λ value. has_coefficient facts.coefficients column value.row) values || has_twins values
repeats_value facts (RightSideLine set_name values) =
    list_any (λ value. has_value_for facts.right_sides value.row) values || has_twins values
repeats_value facts (RangeLine set_name values) =
    list_any (λ value. has_value_for facts.ranges value.row) values || has_twins values
repeats_value facts other = false

-- a number of a name that isn't the last of so many
abbrev pub is_before_last : Option ℕ → ℕ → Bool
is_before_last None count = false
is_before_last (Some k) count = nat_lt (k + 1) count

-- a column that was given, with another column behind it
abbrev pub splits_column : (columns : List (List ℕ)) → Saying → Bool
splits_column columns (ColumnLine column whole values) = is_before_last (number_in columns column) (length columns)
splits_column columns other = false

-- ---- words: kinds 13 to 15

-- a row whose type isn't one of the four
abbrev pub has_bad_row_type : Saying → Bool
has_bad_row_type (RowLine None name) = true
has_bad_row_type other = false

-- a bound whose type isn't one of the ten
abbrev pub has_bad_bound_type : Saying → Bool
has_bad_bound_type BadBound = true
has_bad_bound_type other = false

-- a marker that neither begins nor ends whole columns
abbrev pub is_bad_marker : Saying → Bool
is_bad_marker BadMarker = true
is_bad_marker other = false

-- ---- the whole: kinds 16, 18 and 19

-- ENDATA without an N row
abbrev pub lacks_objective : List RowKind → Saying → Bool
lacks_objective kinds now = is_end now && not (list_any is_free kinds)

-- a row too many; those of type N aren't counted
abbrev pub is_row_too_many : ℕ → Saying → Bool
is_row_too_many count (RowLine (Some kind) name) = not (is_free kind) && nat_le most_rows count
is_row_too_many count other = false

-- a column too many
abbrev pub is_column_too_many : (columns : List (List ℕ)) → Saying → Bool
is_column_too_many columns (ColumnLine column whole values) =
    not (is_in columns column) && nat_le most_columns (length columns)
is_column_too_many columns other = false

-- how many of the numbers aren't 0
abbrev pub entry_count : List Coefficient → ℕ
entry_count entries = length (filter (λ entry. not (is_zero entry.number)) entries)

-- a number too many; those that are 0 aren't counted
abbrev pub is_entry_too_many : ℕ → Saying → Bool
is_entry_too_many count (ColumnLine column whole values) =
    nat_lt most_entries (count + entry_count (coefficients_in (ColumnLine column whole values)))
is_entry_too_many count other = false

-- the line exceeds a limit, behind so many rows that aren't of type N, these columns, and so many entries
abbrev pub is_too_many : (rows : ℕ) (columns : List (List ℕ)) (entries : ℕ) → Saying → Bool
is_too_many rows columns entries now =
    is_row_too_many rows now || (is_column_too_many columns now || is_entry_too_many entries now)

-- the name of a row or column is too long
abbrev pub has_long_name : Saying → Bool
has_long_name (RowLine kind name) = nat_lt longest_name (length name)
has_long_name (ColumnLine column whole values) = nat_lt longest_name (length column)
has_long_name other = false

-- ---- the profile: kinds 20 and 21

-- a row that was given with type N
abbrev pub is_free_row : Option GivenRow → Bool
is_free_row None = false
is_free_row (Some row) = is_free row.kind

-- RANGES on a row of type N
abbrev pub ranges_free_row : List GivenRow → Saying → Bool
ranges_free_row rows (RangeLine set_name values) = list_any (λ value. is_free_row (row_in rows value.row)) values
ranges_free_row rows other = false

-- a sense that isn't one of the four
abbrev pub has_bad_sense : Saying → Bool
has_bad_sense now = list_any (λ word. is_none (sense_of word)) (sense_words_in now)

-- a value that is no bound, on a side on which it can't be left out: a low side is left out downwards, a high side
-- upwards, and a fixed one not at all; the high side of a semi-continuous column must be above 0
abbrev pub is_no_bound : BoundKind → Numeral → Bool
is_no_bound Low value = is_huge value && not (is_negative value)
is_no_bound WholeLow value = is_huge value && not (is_negative value)
is_no_bound High value = is_huge value && is_negative value
is_no_bound WholeHigh value = is_huge value && is_negative value
is_no_bound Fixed value = is_huge value
is_no_bound SemiContinuous value = not (is_positive value)
is_no_bound other value = false

-- the column of a name, if it was given
abbrev pub column_in : List GivenColumn → List ℕ → Option GivenColumn
column_in [] name = None
column_in (column ∷ columns) name = if bytes_eq name column.name then Some column else column_in columns name

-- a bound record makes a column with these bounds both whole and semi-continuous
abbrev pub is_mixed_by : BoundKind → Numeral → Option Bounded → Bool
is_mixed_by kind value None = false
is_mixed_by kind value (Some b) = is_mixed (with_bound b kind value)

-- what isn't in the profile: a value that is no bound, or a column that a bound record makes both whole and
-- semi-continuous; at ENDATA a semi-continuous column without its bounds; and a sense that isn't one of the four
abbrev pub is_out_of_profile : Facts → Saying → Bool
is_out_of_profile facts (BoundLine kind set_name column value) =
    is_no_bound kind value
    || is_mixed_by kind value (option_map (bounds_so_far facts) (column_in facts.columns column))
is_out_of_profile facts (Opens End words) = list_any lacks_sides (all_bounds facts)
is_out_of_profile facts other = has_bad_sense other

-- ---- the list of rules

-- the types of the rows
abbrev pub kinds_of : Facts → List RowKind
kinds_of facts = map (λ row. row.kind) facts.rows

-- the rules of all kinds on one line
abbrev pub rules : Facts → Saying → List Rule
rules facts now =
    rule 1 (is_unknown_section now)
    ∷ rule 2 (is_out_of_order facts.parts now)
    ∷ rule 3 (lacks_section facts.parts now)
    ∷ rule 4 (is_miscounted now)
    ∷ rule 5 (list_any is_no_number (numbers_in now))
    ∷ rule 6 (has_huge_value now || has_wide_side facts now)
    ∷ rule 7 (list_any is_too_fine (numbers_in now))
    ∷ rule 8 (names_unknown_row (row_names facts) now)
    ∷ rule 9 (names_unknown_column (column_names facts) now)
    ∷ rule 10 (repeats_row (row_names facts) now)
    ∷ rule 11 (repeats_value facts now)
    ∷ rule 12 (splits_column (column_names facts) now)
    ∷ rule 13 (has_bad_row_type now)
    ∷ rule 14 (has_bad_bound_type now)
    ∷ rule 15 (is_bad_marker now)
    ∷ rule 16 (lacks_objective (kinds_of facts) now)
    ∷ rule 18 (is_too_many (length (constraints facts)) (column_names facts) (entry_count facts.coefficients) now)
    ∷ rule 19 (has_long_name now)
    ∷ rule 20 (ranges_free_row facts.rows now)
    ∷ rule 21 (is_out_of_profile facts now)
    ∷ []

-- the least kind whose rule is broken
abbrev pub fault_of : Facts → Saying → Option ℕ
fault_of facts now = least (rules facts now)
