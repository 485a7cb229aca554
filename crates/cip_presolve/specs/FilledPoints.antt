-- Points with the values of the columns that are gone.
use Rattle.std.specs.Prelude.{◌≡◌, List, Option}
use Rattle.cip_rational.specs.Rational.{ℚ}
use Rattle.cip_presolve.specs.Forms.{Form, filled}
use Rattle.cip_presolve.specs.StepsBack.{AllFit}

-- values are a point's and those of the forms at it, of which none overflows
pub record IsFilled (forms : List (Option Form)) (point values : List ℚ) : Type 0 where
  pub are : values ≡ filled forms point point
  pub fit : AllFit forms point
