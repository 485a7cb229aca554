-- What the sides of a form's source say of its value.
use Rattle.std.specs.Prelude.{◌≡◌, true}
use Rattle.cip_rational.specs.Rational.{ℚ, ◌+ℚ◌, ◌*ℚ◌, ◌≤ℚ◌, IsWhole}
use Rattle.cip_rational.specs.Range.{fits_range}
use Rattle.cip_problem.specs.Program.{Sides}
use Rattle.cip_problem.specs.Box.{Between}
use Rattle.cip_presolve.specs.Forms.{Form}

-- a form keeps sides wherever its source keeps its own
abbrev pub FormKeeps : Form → Sides → Sides → Type 0
FormKeeps form own outer =
    (value : ℚ) → Between own.low own.high value
    → Between outer.low outer.high (form.constant +ℚ form.factor *ℚ value)

-- a number is at most, or at least, each value that a form has where its source keeps its sides
abbrev pub IsLeastOf : Form → Sides → ℚ → Type 0
IsLeastOf form own least =
    (value : ℚ) → Between own.low own.high value → least ≤ℚ form.constant +ℚ form.factor *ℚ value

abbrev pub IsGreatestOf : Form → Sides → ℚ → Type 0
IsGreatestOf form own greatest =
    (value : ℚ) → Between own.low own.high value → form.constant +ℚ form.factor *ℚ value ≤ℚ greatest

-- a value is whole, and in range
pub record IsWholeInRange (value : ℚ) : Type 0 where
  pub whole : IsWhole value
  pub in_range : fits_range value ≡ true

-- a form has whole values in range at whole values of its source between sides, the product that is formed before the
-- constant is added is in range, too, and there is such a value
pub record FormAssigns (form : Form) (own : Sides) : Type 0 where
  pub constant : IsWhole form.constant
  pub factor : IsWhole form.factor
  pub values : (value : ℚ)
      → IsWhole value → Between own.low own.high value
      → IsWholeInRange (form.constant +ℚ form.factor *ℚ value)
  pub products : (value : ℚ)
      → IsWhole value → Between own.low own.high value → fits_range (form.factor *ℚ value) ≡ true
  pub start : ℚ
  pub start_whole : IsWhole start
  pub start_between : Between own.low own.high start
