-- Texts of free MPS with what they come to, for the laws of examples.
use lib.Chars.{codes}
use Rattle.std.specs.Prelude.{◌≡◌, ℕ, Bool, true, false, pos, negsuc, List, [], ◌∷◌, ◌++◌, map, Option, None, Some, replicate}
use Rattle.cip_rational.specs.Rational.{ℚ, ratio, zeroℚ, oneℚ}
use Rattle.cip_text_rules.specs.Program.{Term, Sides, Row, Choice, Plain, Open, Program}
use Rattle.cip_rational.specs.Numeral.{Exact}
use Rattle.cip_text_rules.specs.LineTexts.{Outcome, Means, Faulty, items_in, too_long, outcome_of}
use Rattle.cip_text_rules.specs.LineStatements.{known_after}
use Rattle.cip_text_rules.specs.MpsWords.{AtMost}
use Rattle.cip_text_rules.specs.MpsSayings.{Value, RowLine, RightSideLine, RangeLine}
use Rattle.cip_text_rules.specs.MpsFacts.{GivenRow, Facts, no_facts}
use Rattle.cip_text_rules.specs.MpsBounds.{all_bounds, column_sides, choices_of}
use Rattle.cip_text_rules.specs.MpsProgram.{row_sides}
use Rattle.cip_text_rules.specs.MpsRules.{fault_of}
use Rattle.cip_text_rules.specs.MpsOutcome.{no_context, mps_records, mps_reading}

-- ---- a text and its program

-- three rows and three columns
abbrev pub three_columns : List ℕ
three_columns =
    codes "NAME chvatal\nOBJSENSE\n MAX\n"
    ++ codes "ROWS\n N COST\n L R1\n L R2\n L R3\n"
    ++ codes "COLUMNS\n M1 'MARKER' 'INTORG'\n"
    ++ codes " a COST 5 R1 2\n a R2 4 R3 3\n"
    ++ codes " b COST 4 R1 3\n b R2 1 R3 4\n"
    ++ codes " c COST 3 R1 1\n c R2 2 R3 2\n"
    ++ codes " M2 'MARKER' 'INTEND'\n"
    ++ codes "RHS\n RHS R1 5 R2 11\n RHS R3 8\n"
    ++ codes "BOUNDS\n UP B a 10\n UP B b 10\n UP B c 10\n"
    ++ codes "ENDATA\n"

-- a whole number
abbrev pub integral : ℕ → ℚ
integral n = ratio (pos n) 1

-- a term of a row
abbrev pub term : (coefficient column : ℕ) → Term
term coefficient column = record { column = column; coefficient = integral coefficient }

-- a row at most a number
abbrev pub row_to : ℕ → List Term → Row
row_to high terms = record { terms = terms; low = None; high = Some (integral high) }

-- from 0 to a high side
abbrev pub up_to : ℕ → Sides
up_to high = record { low = Some zeroℚ; high = Some (integral high) }

-- 5 a + 4 b + 3 c is to be greatest, so that inside its negative is to be least; 2 a + 3 b + c is at most 5,
-- 4 a + b + 2 c at most 11, and 3 a + 4 b + 2 c at most 8; a, b and c are whole, from 0 to 10
abbrev pub three_columns_program : Program
three_columns_program = record {
  column_names = codes "a" ∷ codes "b" ∷ codes "c" ∷ [];
  row_names = codes "R1" ∷ codes "R2" ∷ codes "R3" ∷ [];
  rows =
      row_to 5 (term 2 0 ∷ term 3 1 ∷ term 1 2 ∷ []) ∷ row_to 11 (term 4 0 ∷ term 1 1 ∷ term 2 2 ∷ [])
      ∷ row_to 8 (term 3 0 ∷ term 4 1 ∷ term 2 2 ∷ []) ∷ [];
  costs = ratio (negsuc 4) 1 ∷ ratio (negsuc 3) 1 ∷ ratio (negsuc 2) 1 ∷ [];
  constant = zeroℚ;
  maximized = true;
  integral = true ∷ true ∷ true ∷ [];
  bounds = up_to 10 ∷ up_to 10 ∷ up_to 10 ∷ [];
  choices = [];
}

-- a comment, tabs, carriage returns, empty lines, a second N row, sets, an entry 0, a column behind the markers that is
-- whole by its bound, and text behind ENDATA
abbrev pub loose_text : List ℕ
loose_text =
    codes "* a comment\nOBJSENSE min\nNAME of a text\n"
    ++ codes "ROWS\r\n N COST\r\n\r\n N other\n E R1\n G R2\n"
    ++ codes "COLUMNS\n\ta\tCOST\t1.5\n a R2 0 other 7\n b R2 .5\n"
    ++ codes "BOUNDS\n UI B a 4\n UI C a 5\n BV B b\nRHS\n A R1 4 COST -3\n B R1 5\nENDATA\nand more"

-- 3/2 a + 3 is to be least; 0 is 4, and 1/2 b at least 0; a is whole from 0 to 4, and b from 0 to 1
abbrev pub loose_program : Program
loose_program = record {
  column_names = codes "a" ∷ codes "b" ∷ [];
  row_names = codes "R1" ∷ codes "R2" ∷ [];
  rows =
      record { terms = []; low = Some (integral 4); high = Some (integral 4) }
      ∷ record {
        terms = record { column = 1; coefficient = ratio (pos 5) 10 } ∷ [];
        low = Some zeroℚ;
        high = None;
      } ∷ [];
  costs = ratio (pos 15) 10 ∷ zeroℚ ∷ [];
  constant = integral 3;
  maximized = false;
  integral = true ∷ true ∷ [];
  bounds = up_to 4 ∷ record { low = Some zeroℚ; high = Some oneℚ } ∷ [];
  choices = [];
}

-- a continuous column without bound records, a free one, and a whole one without a high side
abbrev pub open_text : List ℕ
open_text =
    codes "ROWS\n N COST\nCOLUMNS\n a COST 1\n b COST 2\n M 'MARKER' 'INTORG'\n c COST 3\n"
    ++ codes "BOUNDS\n FR B b\n PL B c\nENDATA\n"

-- a + 2 b + 3 c is to be least, for a at least 0 and c whole and at least 0
abbrev pub open_program : Program
open_program = record {
  column_names = codes "a" ∷ codes "b" ∷ codes "c" ∷ [];
  row_names = [];
  rows = [];
  costs = integral 1 ∷ integral 2 ∷ integral 3 ∷ [];
  constant = zeroℚ;
  maximized = false;
  integral = false ∷ false ∷ true ∷ [];
  bounds =
      record { low = Some zeroℚ; high = None } ∷ record { low = None; high = None }
      ∷ record { low = Some zeroℚ; high = None } ∷ [];
  choices = [];
}

-- a semi-continuous column from 2 to 5
abbrev pub semi_text : List ℕ
semi_text =
    codes "ROWS\n N COST\n G R1\nCOLUMNS\n x COST 1 R1 1\nRHS\n RHS R1 1\n"
    ++ codes "BOUNDS\n LO B x 2\n SC B x 5\nENDATA\n"

-- x is to be least, and at least 1; it is 0 or from 2 to 5, so that its bounds are 0 and 5 while its choice is open
abbrev pub semi_program : Program
semi_program = record {
  column_names = codes "x" ∷ [];
  row_names = codes "R1" ∷ [];
  rows = record { terms = term 1 0 ∷ []; low = Some (integral 1); high = None } ∷ [];
  costs = integral 1 ∷ [];
  constant = zeroℚ;
  maximized = false;
  integral = false ∷ [];
  bounds = up_to 5 ∷ [];
  choices = Open (record { low = Some (integral 2); high = Some (integral 5) }) ∷ [];
}

-- what a text comes to
abbrev pub mps_outcome : List ℕ → Outcome Program
mps_outcome text = outcome_of mps_reading text

-- texts with their programs
pub record TextsHavePrograms : Type 0 where
  pub three_columns : mps_outcome three_columns ≡ Means three_columns_program
  pub loose : mps_outcome loose_text ≡ Means loose_program
  pub open_columns : mps_outcome open_text ≡ Means open_program
  pub semi : mps_outcome semi_text ≡ Means semi_program

-- ---- faults

-- a text has its first fault on a line, of a kind
abbrev pub IsFaulty : List ℕ → (line kind : ℕ) → Type 0
IsFaulty text line kind = mps_outcome text ≡ Faulty line kind

-- lines 1 to 4
abbrev pub with_rows : List ℕ → List ℕ
with_rows text = codes "ROWS\n N COST\n L R1\n E R2\n" ++ text

-- lines 1 to 7
abbrev pub with_columns : List ℕ → List ℕ
with_columns text = with_rows (codes "COLUMNS\n M 'MARKER' 'INTORG'\n a COST 5 R1 2\n" ++ text)

-- lines 1 to 9
abbrev pub with_bounds : List ℕ → List ℕ
with_bounds text = with_columns (codes "BOUNDS\n UP B a 10\n" ++ text)

-- a row of type L
abbrev pub row_at_most : List ℕ → GivenRow
row_at_most name = record { kind = AtMost; name = name }

-- so many rows of one name
abbrev pub rows_given : ℕ → Facts
rows_given count = record no_facts { rows = replicate count (row_at_most (codes "R1")) }

-- what a text comes to whose first byte too many is on line 7
abbrev pub long_outcome : Outcome Program → Outcome Program
long_outcome outcome = too_long mps_reading.long 7 outcome

-- each kind on a text of its own
pub record EachKindIsFound : Type 0 where
  pub kind1_section : IsFaulty (with_rows (codes "ROW\n")) 5 1
  pub kind2_repeated : IsFaulty (with_rows (codes "ROWS\n")) 5 2
  pub kind3_missing : IsFaulty (with_rows (codes "ENDATA\n")) 5 3
  pub kind4_fields : IsFaulty (with_rows (codes " L\n")) 5 4
  pub kind5_number : IsFaulty (with_columns (codes " a R2 x\n")) 8 5
  pub kind6_huge : IsFaulty (with_columns (codes " a R2 1e39\n")) 8 6
  pub kind7_fine : IsFaulty (with_columns (codes " a R2 1e-39\n")) 8 7
  pub kind8_row : IsFaulty (with_columns (codes " a R3 1\n")) 8 8
  pub kind9_column : IsFaulty (with_bounds (codes " UP B b 1\n")) 10 9
  pub kind10_row_again : IsFaulty (with_rows (codes " G R1\n")) 5 10
  pub kind11_value_again : IsFaulty (with_columns (codes " a R1 1\n")) 8 11
  pub kind12_column_again : IsFaulty (with_columns (codes " b R1 1\n a R2 1\n")) 9 12
  pub kind13_row_type : IsFaulty (with_rows (codes " l R3\n")) 5 13
  pub kind14_bound_type : IsFaulty (with_bounds (codes " XX B a 1\n")) 10 14
  pub kind15_marker : IsFaulty (with_columns (codes " M 'MARKER' 'INTOFF'\n")) 8 15
  pub kind16_objective : IsFaulty (codes "ROWS\n L R1\nCOLUMNS\nENDATA\n") 4 16
  pub kind17_end : IsFaulty (with_bounds []) 10 17
  pub kind18_row_too_many : fault_of (rows_given 65536) (RowLine (Some AtMost) (codes "R2")) ≡ Some 18
  pub kind18_last_row : fault_of (rows_given 65535) (RowLine (Some AtMost) (codes "R2")) ≡ None
  pub kind18_text : long_outcome (Means loose_program) ≡ Faulty 7 18
  pub kind18_before : long_outcome (Faulty 6 19) ≡ Faulty 6 19
  pub kind18_least : long_outcome (Faulty 7 4) ≡ Faulty 7 4
  pub kind18_less : long_outcome (Faulty 7 19) ≡ Faulty 7 18
  pub kind18_no_end : long_outcome (Faulty 8 17) ≡ Faulty 7 18
  pub kind19_name : IsFaulty (with_rows (codes " L " ++ replicate 256 65 ++ codes "\n")) 5 19
  pub kind19_short : IsFaulty (with_rows (codes " L " ++ replicate 255 65 ++ codes "\n")) 6 17
  pub kind20_range : IsFaulty (with_columns (codes "RANGES\n A COST 1\n")) 9 20
  pub kind21_bound : IsFaulty (with_bounds (codes " SC B a 1\n")) 10 21
  pub kind21_sense : IsFaulty (codes "OBJSENSE\n BEST\n") 2 21

-- ---- readings: sections and lines

-- sections, senses, comments and blanks
pub record SectionsAreRead : Type 0 where
  -- sections may be missing until ENDATA, and one is out of order only behind one of a higher rank
  pub columns_first : IsFaulty (codes "COLUMNS\nROWS\n") 2 2
  pub columns_alone : IsFaulty (codes "COLUMNS\nENDATA\n") 2 3
  pub bounds_first : IsFaulty (codes "BOUNDS\nCOLUMNS\n") 2 2
  pub name_late : IsFaulty (with_rows (codes "NAME\n")) 5 2
  pub fields_first : IsFaulty (codes "\n N COST\n") 2 2
  pub fields_of_name : IsFaulty (codes "NAME\n x\n") 2 2
  pub small_letters : IsFaulty (codes "rows\n") 1 1
  pub word_too_many : IsFaulty (codes "ROWS x\n") 1 4
  pub order_is_less : IsFaulty (with_rows (codes "ROWS x\n")) 5 2
  pub missing_is_less : IsFaulty (codes "ENDATA x\n") 1 3
  -- senses
  pub two_senses : IsFaulty (codes "OBJSENSE\n MAX\n MAX\n") 3 2
  pub sense_and_line : IsFaulty (codes "OBJSENSE MAX\n x y\n") 2 2
  pub two_words : IsFaulty (codes "OBJSENSE\n MAX x\n") 2 4
  pub three_words : IsFaulty (codes "OBJSENSE BEST x\n") 1 4
  pub any_case : IsFaulty (codes "OBJSENSE\n mAxImIzE\n") 3 17
  -- comments, blanks and bytes
  pub star_behind_blank : IsFaulty (with_rows (codes " * x\n")) 5 13
  pub lines_count : IsFaulty (codes "* x\n\n \t\r\nROW\n") 4 1
  pub other_bytes : IsFaulty (10 ∷ 12 ∷ 32 ∷ 10 ∷ []) 2 1

-- ---- readings: rows and columns

-- markers, columns and their numbers
pub record ColumnsAreRead : Type 0 where
  pub marker_row : IsFaulty (with_rows (codes " L 'MARKER'\n L MARKER\nCOLUMNS\n x MARKER 5\n x 'MARKER' 5\n")) 9 15
  pub plain_marker : IsFaulty (with_rows (codes "COLUMNS\n x MARKER INTORG\n x MARKER 'INTEND'\n")) 8 17
  pub other_quotes : IsFaulty (with_rows (codes "COLUMNS\n x MARKER \"INTORG\"\n")) 6 5
  pub five_fields : IsFaulty (with_rows (codes " L 'MARKER'\nCOLUMNS\n x 'MARKER' 5 R1 5\n")) 8 17
  pub marker_between : IsFaulty (with_columns (codes " M MARKER INTEND\n a R2 1\n")) 10 17
  pub split_and_again : IsFaulty (with_columns (codes " b R1 1\n a R1 1\n")) 9 11
  pub zero_again : IsFaulty (with_columns (codes " a R2 0\n a R2 1\n")) 9 11
  pub twice_in_line : IsFaulty (with_columns (codes " b R1 0 R1 1\n")) 8 11
  pub number_is_less : IsFaulty (with_columns (codes " b R3 x\n")) 8 5
  pub long_column : IsFaulty (with_columns (codes " " ++ replicate 256 65 ++ codes " R1 1\n")) 8 19
  pub row_type_and_name : IsFaulty (with_rows (codes " x R1\n")) 5 10
  pub four_fields : IsFaulty (with_columns (codes " b R1 1 R2\n")) 8 4

-- ---- readings: RHS, RANGES and BOUNDS

-- the facts that the lines of a text say
abbrev pub facts_in : List ℕ → Facts
facts_in text = (known_after mps_records no_context (items_in mps_records text)).facts

-- the sides of the columns of a text, and whether they are whole
abbrev pub sides_in : List ℕ → List Sides
sides_in text = map column_sides (all_bounds (facts_in text))

-- whether the columns of a text are whole
abbrev pub wholes_in : List ℕ → List Bool
wholes_in text = map (λ b. b.whole) (all_bounds (facts_in text))

-- the whole column `a`, with these lines of BOUNDS
abbrev pub bounded : List ℕ → List ℕ
bounded lines = with_columns (codes "BOUNDS\n" ++ lines)

-- the sides of one column
abbrev pub both : Option ℚ → Option ℚ → List Sides
both low high = record { low = low; high = high } ∷ []

-- the types of bounds, their sets and their faults
pub record BoundsAreRead : Type 0 where
  pub none : sides_in (bounded []) ≡ both (Some zeroℚ) (Some oneℚ)
  pub high : sides_in (bounded (codes " UP B a 7\n")) ≡ both (Some zeroℚ) (Some (integral 7))
  pub negative_high : sides_in (bounded (codes " UP B a -7\n")) ≡ both None (Some (ratio (negsuc 6) 1))
  pub low_before :
      sides_in (bounded (codes " LO B a -9\n UP B a -7\n"))
      ≡ both (Some (ratio (negsuc 8) 1)) (Some (ratio (negsuc 6) 1))
  pub zero_high : sides_in (bounded (codes " UP B a -0\n")) ≡ both (Some zeroℚ) (Some (ratio (pos 0) 1))
  pub fixed : sides_in (bounded (codes " FX B a 7\n")) ≡ both (Some (integral 7)) (Some (integral 7))
  pub free : sides_in (bounded (codes " FR B a\n")) ≡ both None None
  pub no_low : sides_in (bounded (codes " UP B a 7\n MI B a x\n")) ≡ both None (Some (integral 7))
  pub no_high : sides_in (bounded (codes " PL B a\n")) ≡ both (Some zeroℚ) None
  pub open_high : sides_in (bounded (codes " UP B a Infinity\n")) ≡ both (Some zeroℚ) None
  pub open_low : sides_in (bounded (codes " LO B a -1e20\n UP B a 7\n")) ≡ both None (Some (integral 7))
  pub far_high : sides_in (bounded (codes " UP B a 1e400\n")) ≡ both (Some zeroℚ) None
  pub other_set : sides_in (bounded (codes " UP B a 7\n UP C b 8\n UP a 9\n")) ≡ both (Some zeroℚ) (Some (integral 7))
  pub no_set : sides_in (bounded (codes " UP a 7\n UP B a 8\n")) ≡ both (Some zeroℚ) (Some (integral 7))
  pub later_wins :
      sides_in (bounded (codes " UP B a 7\n BV B a\n LI B a -3\n"))
      ≡ both (Some (ratio (negsuc 2) 1)) (Some oneℚ)
  pub whole_by_marker : wholes_in (bounded []) ≡ true ∷ []
  pub whole_by_bound :
      wholes_in (with_rows (codes "COLUMNS\n a R1 1\n b R1 1\n c R1 1\nBOUNDS\n LI a 1\n UI b 2\n"))
      ≡ true ∷ true ∷ false ∷ []
  -- faults
  pub bad_in_other_set : IsFaulty (with_bounds (codes " XX C a 1\n")) 10 14
  pub count_in_other_set : IsFaulty (with_bounds (codes " UP C b x y\n")) 10 4
  pub bad_type_alone : IsFaulty (with_bounds (codes " XX\n")) 10 14
  pub type_alone : IsFaulty (with_bounds (codes " FR\n")) 10 4
  pub other_set_of_sc : IsFaulty (with_bounds (codes " SC x 1\n")) 11 17
  pub number_of_sc : IsFaulty (with_bounds (codes " SC B a x\n")) 10 5
  pub low_upwards : IsFaulty (with_bounds (codes " LO B a inf\n")) 10 21
  pub high_downwards : IsFaulty (with_bounds (codes " UP B a -1e20\n")) 10 21
  pub fixed_far : IsFaulty (with_bounds (codes " FX B a 1e30\n")) 10 21
  pub far_and_unknown : IsFaulty (with_bounds (codes " LO B b inf\n")) 10 9
  pub fine_bound : IsFaulty (with_bounds (codes " LO B a 1e-39\n")) 10 7

-- ---- readings: semi-continuous columns

-- the choices of the columns of a text
abbrev pub choices_in : List ℕ → List Choice
choices_in text = choices_of (all_bounds (facts_in text))

-- lines 1 to 7: two continuous columns, with these lines of BOUNDS
abbrev pub continuous : List ℕ → List ℕ
continuous lines = with_rows (codes "COLUMNS\n w R1 1\n x R1 1\nBOUNDS\n" ++ lines)

-- the second of two columns is open, with these own sides
abbrev pub open_between : (low high : ℚ) → List Choice
open_between low high = Plain ∷ Open (record { low = Some low; high = Some high }) ∷ []

-- the sides of two columns, the first of which has no bounds
abbrev pub behind_plain : (low high : ℚ) → List Sides
behind_plain low high = record { low = Some zeroℚ; high = None } ∷ record { low = Some low; high = Some high } ∷ []

-- bounds of type SC: the choices and the sides that they make, and their faults
pub record SemisAreRead : Type 0 where
  pub no_choices : choices_in (continuous (codes " UP B x 5\n")) ≡ []
  pub low_zero : choices_in (continuous (codes " SC B x 5\n")) ≡ open_between zeroℚ (integral 5)
  pub low_before : choices_in (continuous (codes " LO B x 2\n SC B x 5\n")) ≡ open_between (integral 2) (integral 5)
  pub low_behind : choices_in (continuous (codes " SC B x 5\n LO B x 2\n")) ≡ open_between (integral 2) (integral 5)
  pub later_high : choices_in (continuous (codes " SC B x 5\n UP B x 7\n")) ≡ open_between zeroℚ (integral 7)
  pub again : choices_in (continuous (codes " SC B x 5\n SC B x 3\n")) ≡ open_between zeroℚ (integral 3)
  pub sides : sides_in (continuous (codes " LO B x 2\n SC B x 5\n")) ≡ behind_plain zeroℚ (integral 5)
  -- the high bound falls below 0: the column is 0
  pub falls :
      choices_in (continuous (codes " LO B x 0\n SC B x 5\n UP B x -3\n"))
      ≡ open_between (ratio (pos 0) 1) (ratio (negsuc 2) 1)
  pub sides_fall :
      sides_in (continuous (codes " LO B x 0\n SC B x 5\n UP B x -3\n")) ≡ behind_plain zeroℚ zeroℚ
  -- faults at the record
  pub zero_value : IsFaulty (continuous (codes " SC B x 0\n")) 9 21
  pub negative_value : IsFaulty (continuous (codes " SC B x -1\n")) 9 21
  pub no_bound : IsFaulty (continuous (codes " SC B x inf\n")) 9 21
  pub far_value : IsFaulty (continuous (codes " SC B x 1e20\n")) 9 21
  pub past_range : IsFaulty (continuous (codes " SC B x 1e400\n")) 9 21
  pub fields_are_less : IsFaulty (continuous (codes " SC B x 0 0\n")) 9 4
  pub number_is_less : IsFaulty (continuous (codes " SC B x y\n")) 9 5
  pub fine_is_less : IsFaulty (continuous (codes " SC B x 1e-39\n")) 9 7
  pub column_is_less : IsFaulty (continuous (codes " SC B y 0\n")) 9 9
  pub other_set : IsFaulty (continuous (codes " UP B w 1\n SC x 0\n")) 11 17
  pub whole_before : IsFaulty (continuous (codes " LI B x 1\n SC B x 5\n")) 10 21
  pub whole_low : IsFaulty (continuous (codes " SC B x 5\n LI B x 1\n")) 10 21
  pub whole_high : IsFaulty (continuous (codes " SC B x 5\n UI B x 5\n")) 10 21
  pub binary : IsFaulty (continuous (codes " SC B x 5\n BV B x\n")) 10 21
  pub other_column : IsFaulty (continuous (codes " SC B x 5\n BV B w\n")) 11 17
  -- faults at ENDATA
  pub low_removed : IsFaulty (continuous (codes " SC B x 5\n UP B x -3\nENDATA\n")) 11 21
  pub no_low : IsFaulty (continuous (codes " SC B x 5\n MI B x\nENDATA\n")) 11 21
  pub no_high : IsFaulty (continuous (codes " SC B x 5\n PL B x\nENDATA\n")) 11 21
  pub free : IsFaulty (continuous (codes " SC B x 5\n FR B x\nENDATA\n")) 11 21
  pub negative_low : IsFaulty (continuous (codes " LO B x -1\n SC B x 5\nENDATA\n")) 11 21
  pub end_fields_are_less : IsFaulty (continuous (codes " SC B x 5\n PL B x\nENDATA x\n")) 11 4

-- the sides of the rows of a text
abbrev pub row_sides_in : List ℕ → List Sides
row_sides_in text = map (row_sides (facts_in text)) (facts_in text).rows

-- rows of type N, L, G and E, with these lines behind COLUMNS
abbrev pub four_rows : List ℕ → List ℕ
four_rows text = codes "ROWS\n N C\n L R1\n G R2\n E R3\nCOLUMNS\n" ++ text

-- the sides of the four rows
abbrev pub sides_of_four : (low1 high1 low2 high2 low3 high3 : Option ℚ) → List Sides
sides_of_four low1 high1 low2 high2 low3 high3 =
    record { low = None; high = None } ∷ record { low = low1; high = high1 }
    ∷ record { low = low2; high = high2 } ∷ record { low = low3; high = high3 } ∷ []

-- the value 2^126 of R2
abbrev pub large_value : List Value
large_value = record { row = codes "R2"; number = Exact false 85070591730234615865843651857942052864 1 } ∷ []

-- the types of rows, with their values in RHS and in RANGES
pub record SidesAreRead : Type 0 where
  pub plain :
      row_sides_in (four_rows (codes "RHS\n R1 1 R2 2\n R3 3\n"))
      ≡ sides_of_four None (Some (integral 1)) (Some (integral 2)) None (Some (integral 3)) (Some (integral 3))
  pub not_named :
      row_sides_in (four_rows [])
      ≡ sides_of_four None (Some zeroℚ) (Some zeroℚ) None (Some zeroℚ) (Some zeroℚ)
  pub other_set :
      row_sides_in (four_rows (codes "RHS\n A R1 1\n B R1 9 R2 9\n R2 9\n"))
      ≡ sides_of_four None (Some (integral 1)) (Some zeroℚ) None (Some zeroℚ) (Some zeroℚ)
  pub ranged :
      row_sides_in (four_rows (codes "RHS\n R1 10 R2 10\n R3 10\nRANGES\n R1 -4 R2 -4\n R3 4\n"))
      ≡ sides_of_four (Some (integral 6)) (Some (integral 10)) (Some (integral 10))
      (Some (integral 14)) (Some (integral 10)) (Some (integral 14))
  pub range_down :
      row_sides_in (four_rows (codes "RANGES\n R1 4 R2 4\n R3 -4\nRHS\n R1 10 R2 10\n R3 10\n"))
      ≡ sides_of_four (Some (integral 6)) (Some (integral 10)) (Some (integral 10))
      (Some (integral 14)) (Some (integral 6)) (Some (integral 10))
  -- faults
  pub wide_range :
      fault_of (facts_in (four_rows (codes "RHS\n R2 85070591730234615865843651857942052864\n")))
      (RangeLine [] large_value) ≡ Some 6
  pub wide_right_side :
      fault_of (facts_in (four_rows (codes "RANGES\n R2 85070591730234615865843651857942052864\n")))
      (RightSideLine [] large_value) ≡ Some 6
  pub range_before : fault_of (facts_in (four_rows [])) (RangeLine [] large_value) ≡ None
  pub value_again : IsFaulty (four_rows (codes "RHS\n R1 0\n R1 1\n")) 9 11
  pub set_is_skipped : IsFaulty (four_rows (codes "RHS\n A R1 0\n B R9 x\n")) 10 17
  pub count_of_set : IsFaulty (four_rows (codes "RHS\n A R1 0\n B\n")) 9 4
  pub range_of_free : IsFaulty (codes "ROWS\n N C\n N D\nCOLUMNS\nRANGES\n D 1\n") 6 20
  pub unknown_range : IsFaulty (four_rows (codes "RANGES\n R9 1\n")) 8 8
