-- A text of a point as far as it came.
--     StandsFor text stream      the code keeps what the plain stream does
use Rattle.std.specs.Prelude.{List, Option}
use Rattle.cip_rational.specs.Rational.{ℚ}
use Rattle.cip_problem.specs.Program.{Program}
use Rattle.cip_text_rules.specs.LineTexts.{Reading}
use Rattle.cip_text_rules.specs.LineStream.{Stream}
use Rattle.cip_text.specs.PieceCuts.{Cut, cut_of}
use Rattle.cip_text.specs.PieceStands.{StandsAt}
use Rattle.cip_text_rules.specs.PointRules.{PointLine}
use Rattle.cip_input.specs.declared.point_text.PointText.{PointText}
use Rattle.cip_input.specs.PointLinesRead as lines

-- what is kept of its bytes
abbrev pub kept_of : PointText → Cut
kept_of text = cut_of text.pieces

-- what its lines gave
abbrev pub values_of : PointText → List (Option ℚ)
values_of text = lines.values_of text.lines

-- the program of which it gives a point
abbrev pub program_of : PointText → Program
program_of text = lines.program_of text.lines

-- how it is read
abbrev pub steps_of : PointText → Reading (List (Option ℚ)) PointLine (List ℚ)
steps_of text = lines.steps_of text.lines

-- the code keeps what the plain stream does
abbrev pub StandsFor : PointText → Stream (List (Option ℚ)) → Type 0
StandsFor text stream = StandsAt (kept_of text) (values_of text) stream
