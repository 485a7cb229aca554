-- One line more, on the state of a reader.
--     tests state saying      the rules of a line, by look-ups of numbers
--     taken state saying      the state, and what a line without fault says
--     mps_steps      how a text is read by these steps
use Rattle.std.specs.Prelude.{ℕ, ◌+◌, ◌==◌, Bool, false, not, ◌&&◌, ◌||◌, if◌then◌else◌, List, [], ◌∷◌, ◌++◌, length, map, Option, None, Some, is_some, unwrap_or, slice_index_or, slice_set}
use Rattle.std.specs.List.{list_any}
use Rattle.cip_rational.specs.Rational.{ℚ, zeroℚ, absolute}
use Rattle.cip_rational.specs.Range.{sum_overflows, difference_overflows}
use Rattle.cip_problem.specs.Program.{Program}
use Rattle.cip_text_rules.specs.Lines.{Record}
use Rattle.cip_text_rules.specs.LineTexts.{Reading, records_of}
use Rattle.cip_text_rules.specs.LineEnds.{Stage, ending}
use Rattle.cip_text_rules.specs.MpsWords.{End, RowKind, number_in, is_in, is_no_number, is_too_fine}
use Rattle.cip_text_rules.specs.MpsSayings.{Value, Saying, Opens, RowLine, ColumnLine, RightSideLine, RangeLine, BoundLine, no_place, said, place_after}
use Rattle.cip_text_rules.specs.MpsFacts.{no_facts, parts_in, senses_in, coefficients_in}
use Rattle.cip_text_rules.specs.MpsBounds.{Bounded, unbounded, with_bound, settled, lacks_sides}
use Rattle.cip_text_rules.specs.MpsProgram.{number, is_free}
use Rattle.cip_text_rules.specs.MpsRules.{Rule, rule, least, is_unknown_section, is_out_of_order, lacks_section, is_miscounted, numbers_in, has_huge_value, names_unknown_row, names_unknown_column, repeats_row, has_twins, splits_column, has_bad_row_type, has_bad_bound_type, is_bad_marker, lacks_objective, is_too_many, has_long_name, has_bad_sense, is_no_bound, is_mixed_by, is_end, entry_count}
use Rattle.cip_text_rules.specs.MpsState.{RowRead, State, state_of, no_row, row_at, column_at, first_of, value_for, moves_low_side, program_from}

-- ---- tests

-- the first of two that is there
abbrev pub or_else : {X : Type 0} → Option X → Option X → Option X
or_else None other = other
or_else (Some x) other = Some x

-- the side that a value of RANGES moves can't be formed
abbrev pub moved_overflows : RowKind → ℚ → Option ℚ → Bool
moved_overflows kind right_side None = false
moved_overflows kind right_side (Some range) =
    not (is_free kind)
    && (if moves_low_side kind range then difference_overflows right_side (absolute range)
    else sum_overflows right_side (absolute range))

-- such a side of a row, with a value of RHS and one of RANGES that count where it has none
abbrev pub overflows_with : (right_side range : Option ℚ) → Option RowRead → Bool
overflows_with right_side range None = false
overflows_with right_side range (Some row) =
    moved_overflows row.kind (unwrap_or (or_else row.right_side right_side) zeroℚ) (or_else row.range range)

-- a row that a line of RHS or RANGES names has such a side
abbrev pub has_wide_side_now : State → Saying → Bool
has_wide_side_now state (RightSideLine set_name values) =
    list_any (λ value. overflows_with (value_for values value.row) None (row_at state value.row)) values
has_wide_side_now state (RangeLine set_name values) =
    list_any (λ value. overflows_with None (value_for values value.row) (row_at state value.row)) values
has_wide_side_now state other = false

-- a row has a number in the column of a number
abbrev pub holds : Option ℕ → Option RowRead → Bool
holds column None = false
holds None (Some row) = false
holds (Some column) (Some row) = list_any (λ h. h.column == column) row.held

-- a row has a value in RHS
abbrev pub has_right_side : Option RowRead → Bool
has_right_side None = false
has_right_side (Some row) = is_some row.right_side

-- a row has a value in RANGES
abbrev pub has_range : Option RowRead → Bool
has_range None = false
has_range (Some row) = is_some row.range

-- a second value for a row
abbrev pub repeats_value_now : State → Saying → Bool
repeats_value_now state (ColumnLine column whole values) =
    list_any (λ value. holds (number_in state.column_names column) (row_at state value.row)) values
    || has_twins values
repeats_value_now state (RightSideLine set_name values) =
    list_any (λ value. has_right_side (row_at state value.row)) values || has_twins values
repeats_value_now state (RangeLine set_name values) =
    list_any (λ value. has_range (row_at state value.row)) values || has_twins values
repeats_value_now state other = false

-- a row of type N
abbrev pub is_free_at : Option RowRead → Bool
is_free_at None = false
is_free_at (Some row) = is_free row.kind

-- RANGES on a row of type N
abbrev pub ranges_free_row_now : State → Saying → Bool
ranges_free_row_now state (RangeLine set_name values) = list_any (λ value. is_free_at (row_at state value.row)) values
ranges_free_row_now state other = false

-- what isn't in the profile
abbrev pub is_out_of_profile_now : State → Saying → Bool
is_out_of_profile_now state (BoundLine kind set_name column value) =
    is_no_bound kind value || is_mixed_by kind value (column_at state column)
is_out_of_profile_now state (Opens End words) = list_any lacks_sides (map settled state.columns)
is_out_of_profile_now state other = has_bad_sense other

-- the rules of a line, by rising kind
abbrev pub tests : State → Saying → List Rule
tests state now =
    rule 1 (is_unknown_section now)
    ∷ rule 2 (is_out_of_order state.opened now)
    ∷ rule 3 (lacks_section state.opened now)
    ∷ rule 4 (is_miscounted now)
    ∷ rule 5 (list_any is_no_number (numbers_in now))
    ∷ rule 6 (has_huge_value now || has_wide_side_now state now)
    ∷ rule 7 (list_any is_too_fine (numbers_in now))
    ∷ rule 8 (names_unknown_row state.row_names now)
    ∷ rule 9 (names_unknown_column state.column_names now)
    ∷ rule 10 (repeats_row state.row_names now)
    ∷ rule 11 (repeats_value_now state now)
    ∷ rule 12 (splits_column state.column_names now)
    ∷ rule 13 (has_bad_row_type now)
    ∷ rule 14 (has_bad_bound_type now)
    ∷ rule 15 (is_bad_marker now)
    ∷ rule 16 (lacks_objective (map (λ row. row.kind) state.rows) now)
    ∷ rule 18 (is_too_many state.row_count state.column_names state.entries now)
    ∷ rule 19 (has_long_name now)
    ∷ rule 20 (ranges_free_row_now state now)
    ∷ rule 21 (is_out_of_profile_now state now)
    ∷ []

-- ---- puts

-- the item of a number is changed
abbrev pub changed : {X : Type 0} → X → List X → Option ℕ → (X → X) → List X
changed default items None f = items
changed default items (Some k) f = slice_set items k (f (slice_index_or items k default))

-- a row with one more number, and with a value of RHS or of RANGES where it has none
abbrev pub with_held : ℕ → ℚ → RowRead → RowRead
with_held column value row = record {
  kind = row.kind;
  held = row.held ++ record { column = column; value = value } ∷ [];
  right_side = row.right_side;
  range = row.range;
}

-- a value of RHS counts where the row has none
abbrev pub with_right_side : ℚ → RowRead → RowRead
with_right_side value row = record {
  kind = row.kind;
  held = row.held;
  right_side = or_else row.right_side (Some value);
  range = row.range;
}

-- and so does one of RANGES
abbrev pub with_range : ℚ → RowRead → RowRead
with_range value row = record {
  kind = row.kind;
  held = row.held;
  right_side = row.right_side;
  range = or_else row.range (Some value);
}

-- the rows, each value of a line put into its row
abbrev pub put_values : (ℚ → RowRead → RowRead) → (names : List (List ℕ)) → List RowRead → List Value → List RowRead
put_values put names rows [] = rows
put_values put names rows (value ∷ values) =
    put_values put names (changed no_row rows (number_in names value.row) (put (number value.number))) values

-- a row that is new
abbrev pub new_row : RowKind → RowRead
new_row kind = record { kind = kind; held = []; right_side = None; range = None }

-- the names, and one more where it is new
abbrev pub with_name : List (List ℕ) → List ℕ → List (List ℕ)
with_name names name = if is_in names name then names else names ++ name ∷ []

-- the columns, and one more where its name is new
abbrev pub with_column : List (List ℕ) → List Bounded → List ℕ → Bool → List Bounded
with_column names columns name whole = if is_in names name then columns else columns ++ unbounded whole ∷ []

-- the number of a name, or that which it gets
abbrev pub number_or_next : List (List ℕ) → List ℕ → ℕ
number_or_next names name = unwrap_or (number_in names name) (length names)

-- the place, the sections, the sense and the count of entries behind a line
abbrev pub moved_on : State → Saying → State
moved_on state now = record state {
  place = place_after state.place now;
  opened = state.opened ++ parts_in now;
  sense = or_else state.sense (first_of (senses_in now));
  entries = state.entries + entry_count (coefficients_in now);
}

-- what a line says of rows and columns
abbrev pub put : State → Saying → State
put state (RowLine (Some kind) name) = record state {
  row_names = state.row_names ++ name ∷ [];
  rows = state.rows ++ new_row kind ∷ [];
  row_count = if is_free kind then state.row_count else state.row_count + 1;
}
put state (ColumnLine column whole values) = record state {
  column_names = with_name state.column_names column;
  columns = with_column state.column_names state.columns column whole;
  rows = put_values (with_held (number_or_next state.column_names column)) state.row_names state.rows values;
}
put state (RightSideLine set_name values) =
    record state { rows = put_values with_right_side state.row_names state.rows values }
put state (RangeLine set_name values) =
    record state { rows = put_values with_range state.row_names state.rows values }
put state (BoundLine kind set_name column value) = record state {
  columns =
      changed (unbounded false) state.columns (number_in state.column_names column) (λ b. with_bound b kind value);
}
put state other = state

-- the state behind a line without fault
abbrev pub taken : State → Saying → State
taken state now = put (moved_on state now) now

-- ---- texts

-- what a record says
abbrev pub said_at : State → Record → Saying
said_at state content = said state.place content

-- a record is the line ENDATA
abbrev pub is_last_at : State → Record → Bool
is_last_at state content = is_end (said_at state content)

-- how records are read, one step for each
abbrev pub record_steps : Reading State Record Program
record_steps = record {
  items = records_of 42;
  start = state_of no_place no_facts;
  fault = λ state content. least (tests state (said_at state content));
  next = λ state content. taken state (said_at state content);
  end_fault = λ state. Some 17;
  result = program_from;
  long = 18;
}

-- how a text is read: ENDATA ends it
abbrev pub mps_steps : Reading (Stage State) Record Program
mps_steps = ending is_last_at record_steps
