-- How points and whole values come back, where the value of each column that is gone is a form of another column's.
use Rattle.std.specs.Prelude.{◌≡◌, ℕ, Bool, true, List, Option, None, Some, Result, Ok, IsOk, IsErr, slice_get, refl}
use Rattle.std.specs.Coded.{Coded, code_by, coded×, coded_bool, coded_list, coded_option}
use Rattle.cip_rational.specs.Rational.{ℚ}
use Rattle.cip_problem.specs.Activity.{value_at}
use Rattle.cip_presolve.specs.Leaf.{at_wholes}
use Rattle.cip_presolve.specs.SearchState.{WayBack}
use Rattle.cip_frac.specs.declared.operations.Wide.{Wide}
use Rattle.cip_frac.specs.Outcomes.{product_added}
use Rattle.cip_presolve.specs.Forms.{Form, placed, spread, gathered, kept_at}
use Rattle.cip_presolve.specs.WholeParts.{with_wholes}
use Rattle.cip_presolve.specs.ColumnForms.{form_code}

-- of each column of the program the form of its value where it is gone, and whether it is whole
pub record StepsTaken : Type 0 where
  pub forms : List (Option Form)
  pub whole : List Bool

abbrev pub steps_code : Coded StepsTaken
steps_code =
    code_by (List (Option Form) × List Bool) (coded× (coded_list (coded_option form_code)) (coded_list coded_bool))
    (λ s. (s.forms, s.whole)) (λ p. record { forms = p.0; whole = p.1 }) (λ _. refl)

-- the point of the program that a point of the reduced program comes back as
abbrev pub point_back : StepsTaken → List ℚ → List ℚ
point_back steps = spread steps.forms

-- the number in the program of a column of the reduced program
abbrev pub old_number : StepsTaken → ℕ → ℕ
old_number steps = kept_at steps.forms

-- which columns of the reduced program are whole
abbrev pub whole_of_left : StepsTaken → List Bool
whole_of_left steps = gathered steps.forms steps.whole

-- a point of the reduced program with these values on its whole columns, and 0 on the others
abbrev pub whole_point : StepsTaken → List ℚ → List ℚ
whole_point steps wholes = with_wholes (whole_of_left steps) wholes

-- the values of the program's whole columns that those of the reduced program's whole columns come back as
abbrev pub leaf_back : StepsTaken → List ℚ → List ℚ
leaf_back steps wholes = at_wholes steps.whole (point_back steps (whole_point steps wholes))

-- so points and whole values come back
abbrev pub way_back : StepsTaken → WayBack
way_back steps = record { point = point_back steps; leaf = leaf_back steps }

-- ---- overflow

-- what the value of a form comes to, the product formed first: the value, or the operation that overflows
abbrev pub form_outcome : Form → List ℚ → Result ℚ Wide
form_outcome form point = product_added form.constant form.factor (value_at point form.source)

-- what the value of a column comes to: its own where it stays, and that of its form where it is gone
abbrev pub value_outcome : Option Form → List ℚ → ℕ → Result ℚ Wide
value_outcome None point column = Ok (value_at point column)
value_outcome (Some form) point column = form_outcome form point

-- the value of some column that is gone overflows at a point
pub record HasOverflow (forms : List (Option Form)) (point : List ℚ) : Type 0 where
  pub column : ℕ
  pub form : Form
  pub gone : slice_get forms column ≡ Some (Some form)
  pub overflows : IsErr (form_outcome form point)

-- that of none does
abbrev pub AllFit : List (Option Form) → List ℚ → Type 0
AllFit forms point =
    (column : ℕ) (form : Form) → slice_get forms column ≡ Some (Some form) → IsOk (form_outcome form point)

-- that of no whole one does
abbrev pub WholesFit : List (Option Form) → List Bool → List ℚ → Type 0
WholesFit forms whole point =
    (column : ℕ) (form : Form)
    → slice_get forms column ≡ Some (Some form) → slice_get whole column ≡ Some true → IsOk (form_outcome form point)

-- some value overflows, or none does, where a point comes back
abbrev pub OverflowsBack : StepsTaken → List ℚ → Type 0
OverflowsBack steps point = HasOverflow steps.forms (placed steps.forms point)

abbrev pub FitsBack : StepsTaken → List ℚ → Type 0
FitsBack steps point = AllFit steps.forms (placed steps.forms point)

-- no value of a whole column overflows where whole values come back
abbrev pub LeafFitsBack : StepsTaken → List ℚ → Type 0
LeafFitsBack steps wholes = WholesFit steps.forms steps.whole (placed steps.forms (whole_point steps wholes))
