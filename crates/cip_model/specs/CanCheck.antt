-- Programs in which no sum overflows at a point that is to be checked.
use Rattle.std.specs.Prelude.{◌≢◌, List}
use Rattle.cip_rational.specs.Rational.{ℚ}
use Rattle.cip_problem.specs.Program.{Program}
use Rattle.cip_problem.specs.Box.{IsInBox}
use Rattle.cip_problem.specs.Points.{AreWhole}
use Rattle.cip_model.specs.declared.verdicts.Place.{Place}
use Rattle.cip_model.specs.declared.verdicts.Verdict.TheVariants.{Wide}
use Rattle.cip_model.specs.Verdicts.{verdict_of}

-- no sum of a row or of the cost overflows at a point of the box with whole values on whole columns
abbrev pub CanCheck : Program → Type 0
CanCheck program =
    (point : List ℚ) (place : Place) → IsInBox program.bounds point → AreWhole program.integral point
    → verdict_of program point ≢ Wide place
