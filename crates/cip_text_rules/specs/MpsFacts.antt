-- What the lines of a text have said so far, as lists in the order of the text. Names stay names.
--     facts_with facts saying      the facts, and what one more line says
use Rattle.std.specs.Prelude.{ℕ, Bool, if◌then◌else◌, List, [], ◌∷◌, ◌++◌, map, Option, None, Some}
use Rattle.cip_rational.specs.Numeral.{Numeral}
use Rattle.cip_text_rules.specs.MpsWords.{Part, Sense, RowKind, BoundKind, is_in, sense_of}
use Rattle.cip_text_rules.specs.MpsSayings.{Value, Saying, Opens, SenseLine, RowLine, ColumnLine, RightSideLine, RangeLine, BoundLine}

-- a row that was given
pub record GivenRow : Type 0 where
  pub kind : RowKind
  pub name : List ℕ

-- a column that was given, and whether its first line stands between markers
pub record GivenColumn : Type 0 where
  pub name : List ℕ
  pub whole : Bool

-- a number for a row in a column
pub record Coefficient : Type 0 where
  pub column : List ℕ
  pub row : List ℕ
  pub number : Numeral

-- a bound of a column
pub record GivenBound : Type 0 where
  pub kind : BoundKind
  pub column : List ℕ
  pub value : Numeral

-- the sections opened, the senses said (whether each maximises), the rows, the columns without repeats, the numbers of
-- COLUMNS, those of the first set of RHS and of RANGES, and the bounds of the first set of BOUNDS
pub record Facts : Type 0 where
  pub parts : List Part
  pub senses : List Bool
  pub rows : List GivenRow
  pub columns : List GivenColumn
  pub coefficients : List Coefficient
  pub right_sides : List Value
  pub ranges : List Value
  pub bounds : List GivenBound

-- before the first line nothing has been said
abbrev pub no_facts : Facts
no_facts = record {
  parts = [];
  senses = [];
  rows = [];
  columns = [];
  coefficients = [];
  right_sides = [];
  ranges = [];
  bounds = [];
}

-- ---- what one line says

-- the section that a line opens
abbrev pub parts_in : Saying → List Part
parts_in (Opens part words) = part ∷ []
parts_in other = []

-- a sense, where the word is one
abbrev pub sense_if : Option Bool → List Bool
sense_if None = []
sense_if (Some maximized) = maximized ∷ []

-- the words of a sense: the second on the line of OBJSENSE, or the one of a line under it
abbrev pub sense_words_in : Saying → List (List ℕ)
sense_words_in (Opens Sense (word ∷ words)) = word ∷ []
sense_words_in (SenseLine word) = word ∷ []
sense_words_in other = []

-- the sense of the first of these words
abbrev pub senses_from : List (List ℕ) → List Bool
senses_from [] = []
senses_from (word ∷ words) = sense_if (sense_of word)

-- the sense that a line says
abbrev pub senses_in : Saying → List Bool
senses_in saying = senses_from (sense_words_in saying)

-- the row of a line of ROWS, where its type is one of the four
abbrev pub rows_in : Saying → List GivenRow
rows_in (RowLine (Some kind) name) = record { kind = kind; name = name } ∷ []
rows_in other = []

-- the column of a line of COLUMNS
abbrev pub columns_in : Saying → List GivenColumn
columns_in (ColumnLine column whole values) = record { name = column; whole = whole } ∷ []
columns_in other = []

-- the numbers of a line of COLUMNS
abbrev pub coefficients_in : Saying → List Coefficient
coefficients_in (ColumnLine column whole values) =
    map (λ value. record { column = column; row = value.row; number = value.number }) values
coefficients_in other = []

-- the values of a line of RHS
abbrev pub right_sides_in : Saying → List Value
right_sides_in (RightSideLine set_name values) = values
right_sides_in other = []

-- the values of a line of RANGES
abbrev pub ranges_in : Saying → List Value
ranges_in (RangeLine set_name values) = values
ranges_in other = []

-- the bound of a line of BOUNDS
abbrev pub bounds_in : Saying → List GivenBound
bounds_in (BoundLine kind set_name column value) = record { kind = kind; column = column; value = value } ∷ []
bounds_in other = []

-- ---- one line more

-- the names of the rows, those of type N among them
abbrev pub row_names : Facts → List (List ℕ)
row_names facts = map (λ row. row.name) facts.rows

-- the names of columns
abbrev pub names_of : List GivenColumn → List (List ℕ)
names_of columns = map (λ column. column.name) columns

-- the names of the columns
abbrev pub column_names : Facts → List (List ℕ)
column_names facts = names_of facts.columns

-- columns, and one more where its name is new
abbrev pub with_columns : List GivenColumn → List GivenColumn → List GivenColumn
with_columns columns [] = columns
with_columns columns (column ∷ others) =
    if is_in (names_of columns) column.name then columns else columns ++ column ∷ []

-- the facts, and what one more line says
abbrev pub facts_with : Facts → Saying → Facts
facts_with facts now = record {
  parts = facts.parts ++ parts_in now;
  senses = facts.senses ++ senses_in now;
  rows = facts.rows ++ rows_in now;
  columns = with_columns facts.columns (columns_in now);
  coefficients = facts.coefficients ++ coefficients_in now;
  right_sides = facts.right_sides ++ right_sides_in now;
  ranges = facts.ranges ++ ranges_in now;
  bounds = facts.bounds ++ bounds_in now;
}
