-- What the code keeps of the lines that have ended, and what it takes of one line more.
use Rattle.std.specs.Prelude.{◌≡◌, ℕ, List, Option, None}
use Rattle.cip_rational.specs.Rational.{ℚ}
use Rattle.cip_problem.specs.Program.{Program}
use Rattle.cip_text_rules.specs.MpsRules.{least}
use Rattle.cip_text_rules.specs.LineTexts.{Reading}
use Rattle.cip_text_rules.specs.PointRules.{PointLine}
use Rattle.cip_text_rules.specs.PointSteps.{point_tests, values_with, point_steps}
use Rattle.cip_input.specs.declared.point_lines.PointLines.{PointLines}

-- the program of which columns are given
abbrev pub program_of : PointLines → Program
program_of lines = lines.program.now

-- the values that were given
abbrev pub values_of : PointLines → List (Option ℚ)
values_of lines = lines.values.items

-- how the text is read
abbrev pub steps_of : PointLines → Reading (List (Option ℚ)) PointLine (List ℚ)
steps_of lines = point_steps (program_of lines)

-- a line has the least kind of its tests; without fault its value is put
pub record IsTaken (program : Program) (old new : List (Option ℚ)) (now : PointLine) (kind : Option ℕ) : Type 0 where
  pub is_kind : kind ≡ least (point_tests program old now)
  pub taken : kind ≡ None → new ≡ values_with program old now
