-- The laws of texts of points, each as one statement: functions of `src/` have them as contracts.
use Rattle.std.specs.Prelude.{◌≡◌, ℕ, ◌≤◌, ◌==◌, true, false, ◌&&◌, List, ◌∷◌, ◌++◌, None, Some, flat_map}
use Rattle.std.specs.List.{AllByRecursion, AllZip, list_any}
use Rattle.cip_rational.specs.Rational.{ℚ}
use Rattle.cip_problem.specs.Program.{Program}
use Rattle.cip_rational.specs.Numeral.{Numeral, value_of}
use Rattle.cip_text_rules.specs.MpsWords.{is_in}
use Rattle.cip_text_rules.specs.LineTexts.{items_in, HasResult}
use Rattle.cip_text_rules.specs.LineStatements.{OneOutcome, FaultsAreFirst, ResultsAreDescribed}
use Rattle.cip_text_rules.specs.PointRules.{PointLine, Given, given_in, is_given, point_rules, point_fault, point_reading}

-- a text has a point or a first fault, never both, and one of each at the most
abbrev pub PointsHaveOneOutcome : Type 0
PointsHaveOneOutcome = (program : Program) → OneOutcome (point_reading program)

-- the fault of a text is that of its first faulty line; else the one behind the last line, if there is one
abbrev pub PointFaultsAreFirst : Type 0
PointFaultsAreFirst = (program : Program) → FaultsAreFirst (point_reading program)

-- a text has a point exactly where no line has a fault, and there is none behind the last line
abbrev pub PointsAreDescribed : Type 0
PointsAreDescribed = (program : Program) → ResultsAreDescribed (point_reading program)

-- the fault of a line is a kind whose rule is broken, and no lesser one is; a line without fault breaks none
pub record PointFaultsAreLeast : Type 0 where
  pub broken : (program : Program) (given : List Given) (now : PointLine) (kind : ℕ)
      → point_fault program given now ≡ Some kind
      → list_any (λ r. r.kind == kind && r.broken) (point_rules program given now) ≡ true
  pub least : (program : Program) (given : List Given) (now : PointLine) (kind : ℕ)
      → point_fault program given now ≡ Some kind
      → AllByRecursion (λ r. r.broken ≡ true → kind ≤ r.kind) (point_rules program given now)
  pub none : (program : Program) (given : List Given) (now : PointLine)
      → point_fault program given now ≡ None
      → AllByRecursion (λ r. r.broken ≡ false) (point_rules program given now)

-- ---- the point

-- the columns that the lines of a text give, with their numbers, in order
abbrev pub given_by : Program → List ℕ → List Given
given_by program text = flat_map (λ now. given_in now.item) (items_in (point_reading program) text)

-- exactly one line gives a column, and its number has this value
pub record IsGivenOnce (given : List Given) (name : List ℕ) (value : ℚ) : Type 0 where
  pub before : List Given
  pub number : Numeral
  pub after : List Given
  pub are_given : given ≡ before ++ record { column = name; number = number } ∷ after
  pub none_before : is_given before name ≡ false
  pub none_after : is_given after name ≡ false
  pub is_value : value_of number ≡ Some value

-- a point has one value for each column of the program, that of the one line that gives the column; and each line gives
-- a column of the program
pub record IsPointOf (program : Program) (text : List ℕ) (point : List ℚ) : Type 0 where
  pub values : AllZip (IsGivenOnce (given_by program text)) program.column_names point
  pub known : AllByRecursion (λ g. is_in program.column_names g.column ≡ true) (given_by program text)

-- the point of a text is that of its lines
abbrev pub PointsAreOfLines : Type 0
PointsAreOfLines =
    (program : Program) (text : List ℕ) (point : List ℚ) → HasResult (point_reading program) text point
    → IsPointOf program text point
