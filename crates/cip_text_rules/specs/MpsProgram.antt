-- The program that the lines of a text describe, by look-ups of names.
--     program_of facts      the program
use Rattle.std.specs.Prelude.{ℕ, Bool, true, false, ◌&&◌, not, if◌then◌else◌, List, [], ◌∷◌, ◌++◌, map, Option, None, Some, unwrap_or}
use Rattle.std.specs.List.{filter}
use Rattle.std.specs.Str.{bytes_eq}
use Rattle.cip_rational.specs.Rational.{ℚ, zeroℚ, negate, ◌+ℚ◌, ◌-ℚ◌}
use Rattle.cip_text_rules.specs.Program.{Term, Sides, Row, Program}
use Rattle.cip_rational.specs.Numeral.{Numeral, Exact, value_of}
use Rattle.cip_text_rules.specs.MpsWords.{RowKind, Free, AtMost, AtLeast, EqualTo, number_in, is_zero, is_negative}
use Rattle.cip_text_rules.specs.MpsSayings.{Value}
use Rattle.cip_text_rules.specs.MpsFacts.{GivenRow, GivenColumn, Coefficient, Facts, column_names}
use Rattle.cip_text_rules.specs.MpsBounds.{all_bounds, column_sides, choices_of}

-- ---- look-ups

-- a number's value; what has no value counts as 0
abbrev pub number : Numeral → ℚ
number numeral = unwrap_or (value_of numeral) zeroℚ

-- the value of a number that may be left out: 0 where it is
abbrev pub number_or_zero : Option Numeral → ℚ
number_or_zero None = zeroℚ
number_or_zero (Some numeral) = number numeral

-- the first of these values that names a row
abbrev pub first_value : List Value → List ℕ → Option Numeral
first_value [] row = None
first_value (value ∷ values) row = if bytes_eq row value.row then Some value.number else first_value values row

-- the number that names a row and a column
abbrev pub number_at : List Coefficient → (row column : List ℕ) → Option Numeral
number_at [] row column = None
number_at (entry ∷ entries) row column =
    if bytes_eq row entry.row && bytes_eq column entry.column then Some entry.number else number_at entries row column

-- the coefficient of a row and a column: the number that names both, else 0
abbrev pub coefficient : Facts → (row column : List ℕ) → ℚ
coefficient facts row column = number_or_zero (number_at facts.coefficients row column)

-- ---- rows

-- a row of type N
abbrev pub is_free : RowKind → Bool
is_free Free = true
is_free other = false

-- the rows of the program: all but those of type N
abbrev pub has_sides : GivenRow → Bool
has_sides row = not (is_free row.kind)

-- those rows in the order of the text
abbrev pub constraints : Facts → List GivenRow
constraints facts = filter has_sides facts.rows

-- a number that isn't 0 is a term, on the column of this number
abbrev pub term_on : Option ℕ → Numeral → List Term
term_on None numeral = []
term_on (Some column) numeral =
    if is_zero numeral then [] else record { column = column; coefficient = number numeral } ∷ []

-- the terms of a row: the numbers that name it, in the order of the text, but those that are 0
abbrev pub terms_of : List (List ℕ) → List Coefficient → List ℕ → List Term
terms_of columns [] row = []
terms_of columns (entry ∷ entries) row =
    (if bytes_eq row entry.row then term_on (number_in columns entry.column) entry.number else [])
    ++ terms_of columns entries row

-- RANGES moves the low side of a row that is at most its right-hand side, and the high side of one that is at least
-- that; of an equal row the low side where the value is negative, and else the high side
abbrev pub moves_low : RowKind → Numeral → Bool
moves_low Free range = false
moves_low AtMost range = true
moves_low AtLeast range = false
moves_low EqualTo range = is_negative range

-- a number without its sign
abbrev pub unsigned : Numeral → Numeral
unsigned (Exact negative size below) = Exact false size below
unsigned other = other

-- the sides of a row with a value in RANGES
abbrev pub ranged : Bool → (right_side size : ℚ) → Sides
ranged true right_side size = record { low = Some (right_side -ℚ size); high = Some right_side }
ranged false right_side size = record { low = Some right_side; high = Some (right_side +ℚ size) }

-- the sides of a row without one
abbrev pub plain_sides : RowKind → ℚ → Sides
plain_sides Free right_side = record { low = None; high = None }
plain_sides AtMost right_side = record { low = None; high = Some right_side }
plain_sides AtLeast right_side = record { low = Some right_side; high = None }
plain_sides EqualTo right_side = record { low = Some right_side; high = Some right_side }

-- the sides of a row of a type, with its right-hand side and its value in RANGES
abbrev pub sides_of : RowKind → ℚ → Option Numeral → Sides
sides_of kind right_side None = plain_sides kind right_side
sides_of kind right_side (Some range) = ranged (moves_low kind range) right_side (number (unsigned range))

-- the right-hand side of a row: its first value in RHS, else 0
abbrev pub right_side : List Value → List ℕ → ℚ
right_side values row = number_or_zero (first_value values row)

-- the sides of a row that was given
abbrev pub row_sides : Facts → GivenRow → Sides
row_sides facts row = sides_of row.kind (right_side facts.right_sides row.name) (first_value facts.ranges row.name)

-- a row with these terms and sides
abbrev pub row_with : List Term → Sides → Row
row_with terms sides = record { terms = terms; low = sides.low; high = sides.high }

-- the row of the program
abbrev pub row_of : Facts → GivenRow → Row
row_of facts row =
    row_with (terms_of (column_names facts) facts.coefficients row.name) (row_sides facts row)

-- ---- the objective

-- the first of a list, and a default where it is empty
abbrev pub first_or : {X : Type 0} → X → List X → X
first_or default [] = default
first_or default (x ∷ xs) = x

-- the names of the rows of type N; the first of them is the objective
abbrev pub free_names : Facts → List (List ℕ)
free_names facts = map (λ row. row.name) (filter (λ row. is_free row.kind) facts.rows)

-- the name of the objective
abbrev pub objective : Facts → List ℕ
objective facts = first_or [] (free_names facts)

-- without a sense the program is minimised
abbrev pub is_maximized : Facts → Bool
is_maximized facts = first_or false facts.senses

-- a cost in the minimised form
abbrev pub minimized : Facts → ℚ → ℚ
minimized facts cost = if is_maximized facts then negate cost else cost

-- the cost of a column: its coefficient in the objective
abbrev pub cost_of_column : Facts → GivenColumn → ℚ
cost_of_column facts column = minimized facts (coefficient facts (objective facts) column.name)

-- a right-hand side of the objective is subtracted
abbrev pub constant_of : Facts → ℚ
constant_of facts = minimized facts (negate (right_side facts.right_sides (objective facts)))

-- ---- the program

-- the program of all that the lines have said
abbrev pub program_of : Facts → Program
program_of facts = record {
  column_names = column_names facts;
  row_names = map (λ row. row.name) (constraints facts);
  rows = map (row_of facts) (constraints facts);
  costs = map (cost_of_column facts) facts.columns;
  constant = constant_of facts;
  maximized = is_maximized facts;
  integral = map (λ b. b.whole) (all_bounds facts);
  bounds = map column_sides (all_bounds facts);
  choices = choices_of (all_bounds facts);
}
