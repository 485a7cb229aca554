-- The laws of the steps, each as one statement: functions of `src/lib.rt` have them as contracts.
use Rattle.std.specs.Prelude.{◌≡◌, ℕ, List, length, Option, Some}
use Rattle.cip_rational.specs.Rational.{ℚ}
use Rattle.cip_problem.specs.Program.{Program}
use Rattle.cip_rational.specs.Numeral.{Numeral}
use Rattle.cip_problem.specs.NamesOnce.{StandOnce}
use Rattle.cip_text_rules.specs.MpsRules.{least}
use Rattle.cip_text_rules.specs.LineStream.{TextsAreRead, FaultsOfEndedLines, FaultsStay}
use Rattle.cip_text_rules.specs.PointRules.{PointLine, BadLine, ValueLine, point_reading}
use Rattle.cip_text_rules.specs.PointSteps.{no_values, point_tests, value_tests, values_with, point_steps}

-- a text that is read byte by byte comes to its point or its first fault
abbrev pub PointsAreRead : Type 0
PointsAreRead =
    (program : Program) → StandOnce program.column_names
    → TextsAreRead (point_reading program) (point_steps program)

-- a fault is known exactly where the text, as far as it was read, is faulty at a line that has ended
abbrev pub PointFaultsOfEndedLines : Type 0
PointFaultsOfEndedLines =
    (program : Program) → StandOnce program.column_names
    → FaultsOfEndedLines (point_reading program) (point_steps program)

-- a fault that is known is the text's, whatever follows, and stays known
abbrev pub PointFaultsStay : Type 0
PointFaultsStay =
    (program : Program) → StandOnce program.column_names → FaultsStay (point_reading program) (point_steps program)

-- a line of other than two fields is faulty; the least kind of any other is that of three tests
pub record PointLinesHaveTests : Type 0 where
  pub bad_line : (program : Program) (values : List (Option ℚ))
      → least (point_tests program values BadLine) ≡ Some 1
  pub value_line : (program : Program) (values : List (Option ℚ)) (column : List ℕ) (number : Numeral)
      → least (point_tests program values (ValueLine column number))
      ≡ least (value_tests program values column number)

-- there is a place for each column, before the first line and behind each
pub record PointStatesAreSound : Type 0 where
  pub first : (program : Program) → length (no_values program) ≡ length program.column_names
  pub later : (program : Program) (values : List (Option ℚ)) (now : PointLine)
      → length (values_with program values now) ≡ length values
