-- What a text says of a point of a program, one column with its fraction a line, and what is wrong with such a text.
--     point_reading program      how such a text is read against a program
use Rattle.std.specs.Prelude.{ℕ, Bool, true, false, not, if◌then◌else◌, List, [], ◌∷◌, ◌++◌, map, Option, None, Some, is_none}
use Rattle.std.specs.List.{list_any}
use Rattle.std.specs.Str.{bytes_eq}
use Rattle.cip_rational.specs.Rational.{ℚ}
use Rattle.cip_problem.specs.Program.{Program}
use Rattle.cip_text_rules.specs.Lines.{Record, record_of}
use Rattle.cip_rational.specs.Numeral.{Numeral, value_of}
use Rattle.cip_rational.specs.FractionText.{fraction_of}
use Rattle.cip_text_rules.specs.MpsWords.{is_in}
use Rattle.cip_text_rules.specs.MpsProgram.{number_or_zero}
use Rattle.cip_text_rules.specs.MpsRules.{Rule, rule, least}
use Rattle.cip_text_rules.specs.LineTexts.{Reading, words_in}

-- ---- lines

-- a line has a column and its number, or a wrong number of fields
pub data PointLine : Type 0 where
  BadLine : PointLine
  ValueLine : (column : List ℕ) (number : Numeral) → PointLine

-- what the fields of a line say
abbrev pub line_said : List (List ℕ) → PointLine
line_said (column ∷ text ∷ []) = ValueLine column (fraction_of text)
line_said words = BadLine

-- what a line says, if it says anything
abbrev pub record_said : Option Record → List PointLine
record_said None = []
record_said (Some content) = line_said (words_in content) ∷ []

-- empty lines, lines of blanks and lines that begin with `*` say nothing
abbrev pub point_lines : List ℕ → List PointLine
point_lines line = record_said (record_of 42 line)

-- ---- what is known

-- a column and the number that a line gives it
pub record Given : Type 0 where
  pub column : List ℕ
  pub number : Numeral

-- the column of a line with its number
abbrev pub given_in : PointLine → List Given
given_in (ValueLine column number) = record { column = column; number = number } ∷ []
given_in BadLine = []

-- a column was given
abbrev pub is_given : List Given → List ℕ → Bool
is_given given name = list_any (λ g. bytes_eq name g.column) given

-- the first number of a column
abbrev pub number_given : List Given → List ℕ → Option Numeral
number_given [] name = None
number_given (g ∷ others) name = if bytes_eq name g.column then Some g.number else number_given others name

-- ---- rules of a line

-- not two fields
abbrev pub is_bad_line : PointLine → Bool
is_bad_line BadLine = true
is_bad_line other = false

-- a name that no column of the program has
abbrev pub is_unknown_column : (columns : List (List ℕ)) → PointLine → Bool
is_unknown_column columns (ValueLine column number) = not (is_in columns column)
is_unknown_column columns BadLine = false

-- a column that was given before
abbrev pub is_column_again : List Given → PointLine → Bool
is_column_again given (ValueLine column number) = is_given given column
is_column_again given BadLine = false

-- a second field that has no value as a fraction: it says none, or one that is too large or too fine
abbrev pub is_bad_fraction : PointLine → Bool
is_bad_fraction (ValueLine column number) = is_none (value_of number)
is_bad_fraction BadLine = false

-- the rules of a line, by rising kind
abbrev pub point_rules : Program → List Given → PointLine → List Rule
point_rules program given now =
    rule 1 (is_bad_line now)
    ∷ rule 2 (is_unknown_column program.column_names now)
    ∷ rule 3 (is_column_again given now)
    ∷ rule 4 (is_bad_fraction now)
    ∷ []

-- the least kind that is broken
abbrev pub point_fault : Program → List Given → PointLine → Option ℕ
point_fault program given now = least (point_rules program given now)

-- ---- behind the last line

-- a column of the program that wasn't given
abbrev pub lacks_column : Program → List Given → Bool
lacks_column program given = list_any (λ name. not (is_given given name)) program.column_names

-- the fault behind the last line, if there is one
abbrev pub point_end_fault : Program → List Given → Option ℕ
point_end_fault program given = if lacks_column program given then Some 5 else None

-- the point: for each column of the program the number that was given for it
abbrev pub point_given : Program → List Given → List ℚ
point_given program given = map (λ name. number_or_zero (number_given given name)) program.column_names

-- ---- texts

-- how a text of a point is read: kinds 1 to 4 are those of a line, 5 is that behind the last line, and 6 that of a text
-- that is too long
abbrev pub point_reading : Program → Reading (List Given) PointLine (List ℚ)
point_reading program = record {
  items = point_lines;
  start = [];
  fault = point_fault program;
  next = λ given now. given ++ given_in now;
  end_fault = point_end_fault program;
  result = point_given program;
  long = 6;
}
