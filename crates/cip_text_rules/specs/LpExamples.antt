-- LP texts with what they come to, for the laws of examples.
use lib.Chars.{codes}
use Rattle.std.specs.Prelude.{◌≡◌, ℕ, true, false, pos, List, [], ◌∷◌, ◌++◌, None, Some, replicate}
use Rattle.cip_rational.specs.Rational.{ratio, zeroℚ, oneℚ, negate}
use Rattle.cip_problem.specs.Program.{Sides, Program}
use Rattle.cip_text_rules.specs.LineTexts.{Outcome, Means, Faulty, too_long, outcome_of}
use Rattle.cip_text_rules.specs.MpsExamples.{integral, term, row_to}
use Rattle.cip_text_rules.specs.LpWords.{Constraints, Generals, AtMost, EqualTo, AtLeast}
use Rattle.cip_text_rules.specs.LpTokens.{Opening, OutsideSection, Reserved, Free, Infinite, Number, Name, Sign, Colon, Relates, BadToken, line_tokens}
use Rattle.cip_text_rules.specs.LpPlaces.{Begins, Adds, Amount}
use Rattle.cip_text_rules.specs.LpFacts.{LpFacts, nothing_said, event_fault}
use Rattle.cip_text_rules.specs.LpOutcome.{lp_reading, told_kind}

-- ---- texts and their programs

-- three rows and three columns
abbrev pub three_columns_lp : List ℕ
three_columns_lp =
    codes "Maximize\n COST: 5 a + 4 b + 3 c\n"
    ++ codes "Subject To\n R1: 2 a + 3 b + 1 c <= 5\n R2: 4 a + 1 b + 2 c <= 11\n R3: 3 a + 4 b + 2 c <= 8\n"
    ++ codes "Bounds\n 0 <= a <= 10\n 0 <= b <= 10\n 0 <= c <= 10\nGenerals\n a\n b\n c\nEnd\n"

-- from 0 to a high side
abbrev pub up_to : ℕ → Sides
up_to high = record { low = Some (integral 0); high = Some (integral high) }

-- 5 a + 4 b + 3 c is to be greatest, so that inside its negative is to be least; 2 a + 3 b + c is at most 5,
-- 4 a + b + 2 c at most 11, and 3 a + 4 b + 2 c at most 8; a, b and c are whole, from 0 to 10
abbrev pub three_columns_program : Program
three_columns_program = record {
  column_names = codes "a" ∷ codes "b" ∷ codes "c" ∷ [];
  row_names = codes "R1" ∷ codes "R2" ∷ codes "R3" ∷ [];
  rows =
      row_to 5 (term 2 0 ∷ term 3 1 ∷ term 1 2 ∷ []) ∷ row_to 11 (term 4 0 ∷ term 1 1 ∷ term 2 2 ∷ [])
      ∷ row_to 8 (term 3 0 ∷ term 4 1 ∷ term 2 2 ∷ []) ∷ [];
  costs = negate (integral 5) ∷ negate (integral 4) ∷ negate (integral 3) ∷ [];
  constant = zeroℚ;
  maximized = true;
  integral = true ∷ true ∷ true ∷ [];
  bounds = up_to 10 ∷ up_to 10 ∷ up_to 10 ∷ [];
  choices = [];
}

-- no names of rows; signs, a constant, an entry 0 and a row of the form 0; a row between two values, with its terms out
-- of order; a comment that hides a keyword; words in any case; a column that Bounds mention first
abbrev pub loose_lp : List ℕ
loose_lp =
    codes "\\ Maximize\n minimize - x+2.5y \\ Bounds\n + 3 + 0 z\nst y + x >= -2\n -1 <= z - 2 x <= 4 0 <= 1 x: y = 7\n"
    ++ codes "bound x free -inf <= y <= 1e20 u >= 2\nBIN z\nEND\nanything"

-- -x + 5/2 y + 3 is to be least; x + y at least -2, -2 x + z from -1 to 4, 0 at most 1, y equal to 7
abbrev pub loose_program : Program
loose_program = record {
  column_names = codes "x" ∷ codes "y" ∷ codes "z" ∷ codes "u" ∷ [];
  row_names = codes "R0" ∷ codes "R1" ∷ codes "R2" ∷ codes "x" ∷ [];
  rows =
      record {
        terms = record { column = 0; coefficient = oneℚ } ∷ record { column = 1; coefficient = oneℚ } ∷ [];
        low = Some (negate (integral 2));
        high = None;
      }
      ∷ record {
        terms =
            record { column = 0; coefficient = negate (integral 2) } ∷ record { column = 2; coefficient = oneℚ } ∷ [];
        low = Some (negate (integral 1));
        high = Some (integral 4);
      }
      ∷ row_to 1 []
      ∷ record {
        terms = record { column = 1; coefficient = oneℚ } ∷ [];
        low = Some (integral 7);
        high = Some (integral 7);
      } ∷ [];
  costs = negate oneℚ ∷ ratio (pos 25) 10 ∷ integral 0 ∷ zeroℚ ∷ [];
  constant = integral 3;
  maximized = false;
  integral = false ∷ false ∷ true ∷ false ∷ [];
  bounds =
      record { low = None; high = None } ∷ record { low = None; high = None }
      ∷ record { low = Some zeroℚ; high = Some oneℚ } ∷ record { low = Some (integral 2); high = None } ∷ [];
  choices = [];
}

-- an objective without columns, and no rows
abbrev pub empty_lp : List ℕ
empty_lp = codes "Min\n 7\nSuch That\nEnd"

-- 7 is to be least
abbrev pub empty_program : Program
empty_program = record {
  column_names = [];
  row_names = [];
  rows = [];
  costs = [];
  constant = integral 7;
  maximized = false;
  integral = [];
  bounds = [];
  choices = [];
}

-- what a text comes to
abbrev pub lp_outcome : List ℕ → Outcome Program
lp_outcome text = outcome_of lp_reading text

-- texts with their programs
pub record LpTextsHavePrograms : Type 0 where
  pub three_columns : lp_outcome three_columns_lp ≡ Means three_columns_program
  pub loose : lp_outcome loose_lp ≡ Means loose_program
  pub empty : lp_outcome empty_lp ≡ Means empty_program

-- ---- tokens

-- a line is cut into the longest tokens, and a word in front of it may open a section
pub record LpTokensAreCut : Type 0 where
  pub exponent : line_tokens (codes "2e5x") ≡ Number (codes "2e5") ∷ Name (codes "x") ∷ []
  pub no_exponent : line_tokens (codes "2e x") ≡ Number (codes "2") ∷ Name (codes "e") ∷ Name (codes "x") ∷ []
  pub signed_exponent :
      line_tokens (codes "2e+x") ≡ Number (codes "2") ∷ Name (codes "e") ∷ Sign false ∷ Name (codes "x") ∷ []
  pub two_points : line_tokens (codes "1..5") ≡ Number (codes "1.") ∷ Number (codes ".5") ∷ []
  pub point : line_tokens (codes ".x") ≡ BadToken ∷ Name (codes "x") ∷ []
  pub name : line_tokens (codes "_a.1#$-b") ≡ Name (codes "_a.1#$") ∷ Sign true ∷ Name (codes "b") ∷ []
  pub relations : line_tokens (codes "<=<=><=>>=")
      ≡ Relates AtMost ∷ Relates AtMost ∷ Relates AtLeast ∷ Relates AtMost ∷ Relates AtLeast ∷ Relates AtLeast ∷ []
  pub other_relations : line_tokens (codes "<==<==> = >=")
      ≡ Relates AtMost ∷ Relates AtMost ∷ Relates EqualTo ∷ Relates AtLeast ∷ Relates EqualTo ∷ Relates AtLeast ∷ []
  pub comment : line_tokens (codes "a \\ b") ≡ Name (codes "a") ∷ []
  pub no_tokens : line_tokens (codes " \t\r") ≡ []
  pub two_words : line_tokens (codes "sUbJect tO x") ≡ Opening Constraints ∷ Name (codes "x") ∷ []
  pub two_words_colon : line_tokens (codes "Subject To:") ≡ Reserved ∷ Name (codes "To") ∷ Colon ∷ []
  pub one_of_two : line_tokens (codes "such x") ≡ Reserved ∷ Name (codes "x") ∷ []
  pub word : line_tokens (codes "GEN") ≡ Opening Generals ∷ []
  pub word_colon : line_tokens (codes "GEN :") ≡ Reserved ∷ Colon ∷ []
  pub word_behind : line_tokens (codes "x gen") ≡ Name (codes "x") ∷ Reserved ∷ []
  pub outside : line_tokens (codes "Semi-Continuous")
      ≡ OutsideSection ∷ Sign true ∷ Name (codes "Continuous") ∷ []
  pub bound_words : line_tokens (codes "FREE -Inf") ≡ Free ∷ Sign true ∷ Infinite (codes "Inf") ∷ []

-- ---- faults

-- a text has its first fault on a line, of a kind
abbrev pub IsLpFaulty : List ℕ → (line kind : ℕ) → Type 0
IsLpFaulty text line kind = lp_outcome text ≡ Faulty line kind

-- lines 1 and 2
abbrev pub with_cost : List ℕ → List ℕ
with_cost text = codes "Min\n cost: x + y\n" ++ text

-- lines 1 to 4
abbrev pub with_rows : List ℕ → List ℕ
with_rows text = with_cost (codes "st\n c1: x + y >= 1\n" ++ text)

-- lines 1 to 5
abbrev pub with_bounds : List ℕ → List ℕ
with_bounds text = with_rows (codes "Bounds\n" ++ text)

-- so many rows
abbrev pub rows_said : ℕ → LpFacts
rows_said count = record nothing_said { rows = replicate count (row_to 1 []) }

-- so many entries
abbrev pub entries_said : ℕ → LpFacts
entries_said count = record nothing_said { entries = count }

-- a number 1, and a number 0
abbrev pub one_amount : Amount
one_amount = record { value = integral 1; zero = false }

abbrev pub zero_amount : Amount
zero_amount = record { value = integral 0; zero = true }

-- what a text comes to whose first byte too many is on line 7, where its tokens come to this
abbrev pub long_outcome : Outcome Program → Outcome Program
long_outcome outcome = too_long lp_reading.long 7 outcome

-- each kind on a text of its own
pub record EachLpKindIsFound : Type 0 where
  pub kind1_token : IsLpFaulty (with_rows (codes " R2: x ! y >= 1\n")) 5 1
  pub kind1_first : IsLpFaulty (codes "\n!") 2 1
  pub kind2_section : IsLpFaulty (with_cost (codes "Bounds\n")) 3 2
  pub kind2_again : IsLpFaulty (with_bounds (codes "Bound\n")) 6 2
  pub kind2_first : IsLpFaulty (codes "x\nMin\n") 1 2
  pub kind2_end : IsLpFaulty (with_cost (codes "End\n")) 3 2
  pub kind3_statement : IsLpFaulty (with_rows (codes " x + <= 1\n")) 5 3
  pub kind3_direction : IsLpFaulty (with_rows (codes " 1 <= x >= 0\n")) 5 3
  pub kind3_equality : IsLpFaulty (with_rows (codes " 1 = x\n")) 5 3
  pub kind3_value : IsLpFaulty (with_rows (codes " 1 <= x\n x >= 0\n")) 6 3
  pub kind4_huge : IsLpFaulty (with_rows (codes " 1e39 x >= 1\n")) 5 4
  pub kind5_fine : IsLpFaulty (with_rows (codes " x >= 1e-39\n")) 5 5
  pub kind5_bound : IsLpFaulty (with_bounds (codes " x >= 1e-39\n")) 6 5
  pub kind6_row_again : IsLpFaulty (with_rows (codes " c1: x >= 1\n")) 5 6
  pub kind6_objective : IsLpFaulty (with_rows (codes " cost: x >= 1\n")) 5 6
  pub kind6_own_name : IsLpFaulty (with_cost (codes "st\n x >= 1\n R2: x >= 1\n x >= 1\n")) 6 6
  pub kind7_entry_again : IsLpFaulty (with_rows (codes " x + y + 0\n x >= 1\n")) 6 7
  pub kind7_cost_again : IsLpFaulty (codes "Min 0 x + x") 1 7
  pub kind8_end : IsLpFaulty (with_rows []) 5 8
  pub kind8_nothing : IsLpFaulty [] 1 8
  pub kind9_row : event_fault (rows_said 65536) (Begins None) ≡ Some 9
  pub kind9_last_row : event_fault (rows_said 65535) (Begins None) ≡ None
  pub kind9_entry : event_fault (entries_said 4194304) (Adds one_amount (codes "x")) ≡ Some 9
  pub kind9_no_entry : event_fault (entries_said 4194304) (Adds zero_amount (codes "x")) ≡ None
  pub kind9_last_entry : event_fault (entries_said 4194303) (Adds one_amount (codes "x")) ≡ None
  pub kind9_text : long_outcome (Means empty_program) ≡ Faulty 7 12
  pub kind9_told : told_kind 12 ≡ 9
  pub kind9_end : long_outcome (Faulty 8 8) ≡ Faulty 7 12
  pub kind9_first : long_outcome (Faulty 7 10) ≡ Faulty 7 10
  pub kind10_name : IsLpFaulty (with_rows (replicate 256 97 ++ codes " >= 1\n")) 5 10
  pub kind10_short : IsLpFaulty (with_rows (replicate 255 97 ++ codes " >= 1\n")) 6 8
  pub kind11_section : IsLpFaulty (with_rows (codes "SOS1\n")) 5 11
  pub kind11_high : IsLpFaulty (with_bounds (codes " x <= -inf\n")) 6 11
  pub kind11_value : IsLpFaulty (with_bounds (codes " 1e20 <= x\n")) 6 11

-- statements, where they end, and where words may stand
pub record LpStatementsAreRead : Type 0 where
  pub empty_objective : IsLpFaulty (codes "Min\nst\n") 2 3
  pub two_constants : IsLpFaulty (codes "Min 1 + 2\nst\n") 2 3
  pub constant_first : lp_outcome (codes "Min 7\nst\nEnd") ≡ Means empty_program
  pub reserved : IsLpFaulty (with_rows (codes " free: x >= 1\n")) 5 3
  pub section_inside : IsLpFaulty (with_rows (codes " x +\nBounds\n")) 6 3
  pub order_inside : IsLpFaulty (with_rows (codes " x +\nMin\n")) 6 2
  pub section_colon : IsLpFaulty (with_rows (codes "Bounds :\n")) 5 3
  pub outside_first : IsLpFaulty (with_cost (codes "SOS\n")) 3 2
  pub outside_inside : IsLpFaulty (with_rows (codes " x\nSOS\n")) 6 3
  pub fault_before_section : IsLpFaulty (with_rows (codes " c1:\nSOS\n")) 5 6
  pub infinity_in_row : IsLpFaulty (with_rows (codes " x <= inf\n")) 5 3
  pub far_in_row : IsLpFaulty (with_rows (codes " x <= 1e20\n")) 6 8
  pub huge_bound : IsLpFaulty (with_bounds (codes " x <= 1e99\n")) 7 8
  pub equal_bound : IsLpFaulty (with_bounds (codes " 1 = x\n")) 7 8
  pub equal_twice : IsLpFaulty (with_bounds (codes " 1 = x\n = 2\n")) 7 3
  pub other_way : IsLpFaulty (with_bounds (codes " 1 <= x\n >= 2\n")) 7 3
  pub zero_form : IsLpFaulty (with_rows (codes " 0 <= 3\n R2: x >= 1\n 3 <= 0\n <= 4\n 0 <= 0 <= 1\n")) 10 8
  pub zero_value : IsLpFaulty (with_rows (codes " 0 <= 3 x\n + y\n y >= 1\n")) 7 3
  pub behind_end : lp_outcome (empty_lp ++ codes " ! 1e99") ≡ Means empty_program
