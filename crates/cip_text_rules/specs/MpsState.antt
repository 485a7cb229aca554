-- What a reader of free MPS keeps of the lines that it has read: names have become numbers, and each row has its own
-- numbers. Values are rationals, since a line without fault has no other numbers.
--     state_of place facts      the state that stands for the facts
--     row_at, column_at state name      the row and the bounds of the column of a name
--     program_from state      the program of the state
use Rattle.std.specs.Prelude.{ℕ, zero, suc, ◌+◌, ◌==◌, Bool, true, false, not, ◌&&◌, if◌then◌else◌, List, [], ◌∷◌, ◌++◌, length, map, Option, None, Some, unwrap_or, slice_index_or}
use Rattle.std.specs.List.{filter}
use Rattle.std.specs.Option.{option_map}
use Rattle.std.specs.Str.{bytes_eq}
use Rattle.cip_rational.specs.Rational.{ℚ, zeroℚ, lt_test, absolute, negate}
use Rattle.cip_problem.specs.Program.{Term, Sides, Row, Program}
use Rattle.cip_text_rules.specs.MpsWords.{Part, RowKind, Free, AtMost, AtLeast, EqualTo, number_in}
use Rattle.cip_text_rules.specs.MpsSayings.{LinePlace, Value}
use Rattle.cip_text_rules.specs.MpsFacts.{GivenRow, Coefficient, Facts, row_names, column_names}
use Rattle.cip_text_rules.specs.MpsBounds.{Bounded, unbounded, bounds_so_far, settled, column_sides, choices_of}
use Rattle.cip_text_rules.specs.MpsProgram.{number, first_value, is_free, constraints, plain_sides, ranged, row_with}
use Rattle.cip_text_rules.specs.MpsRules.{entry_count}

-- ---- what is kept

-- a number that a row has in the column of this number
pub record Held : Type 0 where
  pub column : ℕ
  pub value : ℚ

-- a row: its type, its numbers in the order of the text, and its first values in RHS and in RANGES
pub record RowRead : Type 0 where
  pub kind : RowKind
  pub held : List Held
  pub right_side : Option ℚ
  pub range : Option ℚ

-- where the next line stands, the sections opened, the sense, the rows and the columns with their names, how many rows
-- are not of type N, and how many numbers of COLUMNS are not 0
pub record State : Type 0 where
  pub place : LinePlace
  pub opened : List Part
  pub sense : Option Bool
  pub row_names : List (List ℕ)
  pub rows : List RowRead
  pub column_names : List (List ℕ)
  pub columns : List Bounded
  pub row_count : ℕ
  pub entries : ℕ

-- ---- the state of the facts

-- a number for the column of a number
abbrev pub held_on : Option ℕ → ℚ → List Held
held_on None value = []
held_on (Some column) value = record { column = column; value = value } ∷ []

-- the numbers of a row
abbrev pub held_of : List (List ℕ) → List Coefficient → List ℕ → List Held
held_of columns [] row = []
held_of columns (entry ∷ entries) row =
    (if bytes_eq row entry.row then held_on (number_in columns entry.column) (number entry.number) else [])
    ++ held_of columns entries row

-- the value of a row in RHS or RANGES
abbrev pub value_for : List Value → List ℕ → Option ℚ
value_for values row = option_map number (first_value values row)

-- what is kept of a row that was given
abbrev pub row_read : Facts → GivenRow → RowRead
row_read facts row = record {
  kind = row.kind;
  held = held_of (column_names facts) facts.coefficients row.name;
  right_side = value_for facts.right_sides row.name;
  range = value_for facts.ranges row.name;
}

-- the first of a list, if there is one
abbrev pub first_of : {X : Type 0} → List X → Option X
first_of [] = None
first_of (x ∷ xs) = Some x

-- what is kept of all facts
abbrev pub state_of : LinePlace → Facts → State
state_of place facts = record {
  place = place;
  opened = facts.parts;
  sense = first_of facts.senses;
  row_names = row_names facts;
  rows = map (row_read facts) facts.rows;
  column_names = column_names facts;
  columns = map (bounds_so_far facts) facts.columns;
  row_count = length (constraints facts);
  entries = entry_count facts.coefficients;
}

-- ---- look-ups

-- what stands past the last row
abbrev pub no_row : RowRead
no_row = record { kind = Free; held = []; right_side = None; range = None }

-- the item of a number
abbrev pub item_at : {X : Type 0} → X → List X → Option ℕ → Option X
item_at default items None = None
item_at default items (Some k) = Some (slice_index_or items k default)

-- the row of a name
abbrev pub row_at : State → List ℕ → Option RowRead
row_at state name = item_at no_row state.rows (number_in state.row_names name)

-- the bounds of the column of a name, as far as they were read
abbrev pub column_at : State → List ℕ → Option Bounded
column_at state name = item_at (unbounded false) state.columns (number_in state.column_names name)

-- ---- the program

-- a value is below 0
abbrev pub is_negative_value : ℚ → Bool
is_negative_value value = lt_test value zeroℚ

-- a value is 0
abbrev pub is_zero_value : ℚ → Bool
is_zero_value value = not (lt_test value zeroℚ) && not (lt_test zeroℚ value)

-- RANGES moves the low side of a row of type L, and of one of type E where its value is negative
abbrev pub moves_low_side : RowKind → ℚ → Bool
moves_low_side Free range = false
moves_low_side AtMost range = true
moves_low_side AtLeast range = false
moves_low_side EqualTo range = is_negative_value range

-- the sides of a row of a type, with its right-hand side and its value in RANGES
abbrev pub sides_with : RowKind → ℚ → Option ℚ → Sides
sides_with kind right_side None = plain_sides kind right_side
sides_with kind right_side (Some range) = ranged (moves_low_side kind range) right_side (absolute range)

-- the right-hand side of a row, 0 where it has none
abbrev pub right_side_of : RowRead → ℚ
right_side_of row = unwrap_or row.right_side zeroℚ

-- the terms of a row: its numbers, but those that are 0
abbrev pub terms_from : List Held → List Term
terms_from [] = []
terms_from (h ∷ others) =
    (if is_zero_value h.value then [] else record { column = h.column; coefficient = h.value } ∷ [])
    ++ terms_from others

-- the row of the program
abbrev pub finished_row : RowRead → Row
finished_row row = row_with (terms_from row.held) (sides_with row.kind (right_side_of row) row.range)

-- a row that isn't of type N
abbrev pub is_kept : RowRead → Bool
is_kept row = not (is_free row.kind)

-- the names of the rows that are not of type N
abbrev pub kept_names : List (List ℕ) → List RowRead → List (List ℕ)
kept_names [] rows = []
kept_names (name ∷ names) [] = []
kept_names (name ∷ names) (row ∷ rows) =
    if is_kept row then name ∷ kept_names names rows else kept_names names rows

-- the first row of type N
abbrev pub objective_row : List RowRead → RowRead
objective_row [] = no_row
objective_row (row ∷ rows) = if is_free row.kind then row else objective_row rows

-- the number of a row in a column, and 0 where it has none
abbrev pub held_value : List Held → ℕ → ℚ
held_value [] column = zeroℚ
held_value (h ∷ others) column = if h.column == column then h.value else held_value others column

-- a cost in the minimised form
abbrev pub minimized_by : Option Bool → ℚ → ℚ
minimized_by sense cost = if unwrap_or sense false then negate cost else cost

-- the costs of so many columns, the first of which has this number
abbrev pub costs_from : (Option Bool) → List Held → (at count : ℕ) → List ℚ
costs_from sense held at zero = []
costs_from sense held at (suc count) = minimized_by sense (held_value held at) ∷ costs_from sense held (at + 1) count

-- the program of all that is kept
abbrev pub program_from : State → Program
program_from state = record {
  column_names = state.column_names;
  row_names = kept_names state.row_names state.rows;
  rows = map finished_row (filter is_kept state.rows);
  costs = costs_from state.sense (objective_row state.rows).held 0 (length state.column_names);
  constant = minimized_by state.sense (negate (right_side_of (objective_row state.rows)));
  maximized = unwrap_or state.sense false;
  integral = map (λ b. b.whole) (map settled state.columns);
  bounds = map column_sides (map settled state.columns);
  choices = choices_of (map settled state.columns);
}
