-- Columns whose value is an affine form of another's wherever a row holds, and rows in which the form stands in the
-- column's place.
use Rattle.std.specs.Prelude.{◌≡◌, ◌≢◌, ℕ, ◌<◌, false, List, Some, length, slice_get, refl}
use Rattle.std.specs.Coded.{Coded, code_by, coded×, coded_ℕ}
use Rattle.cip_rational.specs.Rational.{ℚ, ◌+ℚ◌, ◌*ℚ◌, negate, coded_ℚ}
use Rattle.cip_problem.specs.Program.{Row, Program}
use Rattle.cip_problem.specs.Activity.{activity, value_at, StandsBelow}
use Rattle.cip_problem.specs.Choices.{choice_at, is_open}
use Rattle.cip_problem.specs.Points.{IsSatisfied}
use Rattle.cip_presolve.specs.Forms.{Form, form_value}
use Rattle.cip_presolve.specs.RowSteps.{side_less}

-- constant, factor and source
abbrev pub form_code : Coded Form
form_code =
    code_by (ℚ × (ℚ × ℕ)) (coded× coded_ℚ (coded× coded_ℚ coded_ℕ))
    (λ f. (f.constant, (f.factor, f.source)))
    (λ p. record { constant = p.0; factor = p.1.0; source = p.1.1 }) (λ _. refl)

-- a row holds exactly where a column has the value of a form
pub record GivesForm (row : Row) (column : ℕ) (form : Form) : Type 0 where
  pub follows : (point : List ℚ) → IsSatisfied row point → value_at point column ≡ form_value form point
  pub holds : (point : List ℚ) → value_at point column ≡ form_value form point → IsSatisfied row point

-- so does the row of this number
abbrev pub RowGives : Program → ℕ → ℕ → Form → Type 0
RowGives program place column form = (row : Row) → slice_get program.rows place ≡ Some row → GivesForm row column form

-- a column and its form's source are two columns, neither of them semi-continuous
pub record IsSubstitute (program : Program) (column : ℕ) (form : Form) : Type 0 where
  pub inside : column < length program.bounds
  pub source : form.source < length program.bounds
  pub apart : column ≢ form.source
  pub plain : is_open (choice_at program.choices column) ≡ false
  pub source_plain : is_open (choice_at program.choices form.source) ≡ false

-- the form stands in a row in the place of so much of its column: the activity has the form's product in place of the
-- column's, and the sides are less the constant's
pub record IsReplaced (old : Row) (column : ℕ) (form : Form) (new : Row) : Type 0 where
  pub coefficient : ℚ
  pub activity : (point : List ℚ)
      → activity new.terms point ≡ activity old.terms point
      +ℚ (negate coefficient *ℚ value_at point column +ℚ (coefficient *ℚ form.factor) *ℚ value_at point form.source)
  pub low : new.low ≡ side_less old.low (coefficient *ℚ form.constant)
  pub high : new.high ≡ side_less old.high (coefficient *ℚ form.constant)

-- beside that it stands on the first columns where the old row, the column and the source do
pub record IsReplacedIn (old : Row) (column : ℕ) (form : Form) (new : Row) : Type 0 where
  pub replaced : IsReplaced old column form new
  pub stands : (columns : ℕ)
      → StandsBelow columns old.terms → column < columns → form.source < columns → StandsBelow columns new.terms
