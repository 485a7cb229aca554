-- What the test of a point says, as it is printed.
use Rattle.std.specs.Prelude.{List}
use Rattle.cip_rational.specs.Rational.{ℚ}
use Rattle.cip_problem.specs.Program.{Program}
use Rattle.cip_search.specs.Checks.{Checked}
use Rattle.cip_model.specs.Verdicts.{verdict_of}
use Rattle.cip_report.specs.Checks.{checked_of}

abbrev pub checked : Program → List ℚ → Checked
checked program point = checked_of program point (verdict_of program point)
