-- The answer to `check`, and its text: what a point of a program comes to.
use lib.Chars.{codes}
use Rattle.std.specs.Prelude.{ℕ, List, [], ◌∷◌, ◌++◌}
use Rattle.cip_rational.specs.Rational.{ℚ}
use Rattle.cip_rational.specs.NumberText.{fraction_text}
use Rattle.cip_search.specs.Figures.{line, end_line}

-- the side that a value breaks: it is below the low one, or above the high one
pub data Broken : Type 0 where
  Below : (side : ℚ) → Broken
  Above : (side : ℚ) → Broken

-- what the test of a point says, with the names and figures that are printed
pub data Checked : Type 0 where
  Feasible : (cost : ℚ) → Checked
  BreaksBound : (column : List ℕ) (value : ℚ) (broken : Broken) → Checked
  BreaksWhole : (column : List ℕ) (value : ℚ) → Checked
  BreaksRow : (row : List ℕ) (activity : ℚ) (broken : Broken) → Checked
  WideRow : (row : List ℕ) → Checked
  WideCost : Checked

-- the exit status
abbrev pub check_status : Checked → ℕ
check_status (Feasible cost) = 0
check_status (BreaksBound column value broken) = 1
check_status (BreaksWhole column value) = 1
check_status (BreaksRow row activity broken) = 1
check_status (WideRow row) = 11
check_status WideCost = 11

-- `below SIDE` or `above SIDE`
abbrev pub broken_text : Broken → List ℕ
broken_text (Below side) = codes "below " ++ fraction_text side
broken_text (Above side) = codes "above " ++ fraction_text side

-- a figure and the side that it breaks
abbrev pub figure_against : ℚ → Broken → List ℕ
figure_against value broken = fraction_text value ++ 32 ∷ broken_text broken

-- the printed word
abbrev pub check_word : Checked → List ℕ
check_word (Feasible cost) = codes "feasible"
check_word (BreaksBound column value broken) = codes "broken"
check_word (BreaksWhole column value) = codes "broken"
check_word (BreaksRow row activity broken) = codes "broken"
check_word (WideRow row) = codes "wide"
check_word WideCost = codes "wide"

-- the line that says what the point costs, what it breaks, or which sum overflows
abbrev pub check_line : Checked → List ℕ
check_line (Feasible cost) = line (codes "cost") (fraction_text cost)
check_line (BreaksBound column value broken) = line (codes "bound " ++ column) (figure_against value broken)
check_line (BreaksWhole column value) = line (codes "whole " ++ column) (fraction_text value)
check_line (BreaksRow row activity broken) = line (codes "row " ++ row) (figure_against activity broken)
check_line (WideRow row) = line (codes "row") row
check_line WideCost = codes "cost" ++ 10 ∷ []

-- `status W`, one line, `end`
abbrev pub check_text : Checked → List ℕ
check_text checked = line (codes "status") (check_word checked) ++ check_line checked ++ end_line
