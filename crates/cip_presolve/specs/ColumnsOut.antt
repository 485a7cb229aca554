-- Columns that are left out at the end of presolve, each by the form of its value: a list of one entry for each column
-- says so, `None` of a column that stays.
use Rattle.std.specs.Prelude.{◌≡◌, ◌⊎◌, ℕ, ◌<◌, true, false, List, Option, None, Some, length, slice_get}
use Rattle.std.specs.List.{AllByRecursion}
use Rattle.cip_rational.specs.Rational.{ℚ, zeroℚ, IsWhole}
use Rattle.cip_rational.specs.Range.{fits_range}
use Rattle.cip_problem.specs.Program.{Term, Program}
use Rattle.cip_problem.specs.Activity.{value_at}
use Rattle.cip_problem.specs.Box.{sides_at}
use Rattle.cip_problem.specs.Choices.{choice_at, is_open}
use Rattle.cip_presolve.specs.Reduced.{IsRelaxed}
use Rattle.cip_presolve.specs.Forms.{Form, constant_form, form_value}
use Rattle.cip_presolve.specs.ReductionStatements.{IsFixedAt}
use Rattle.cip_presolve.specs.FormEnds.{FormKeeps, FormAssigns}

-- a column isn't semi-continuous and costs nothing
pub record IsPlainAndFree (program : Program) (column : ℕ) : Type 0 where
  pub plain : is_open (choice_at program.choices column) ≡ false
  pub free : value_at program.costs column ≡ zeroℚ

-- a column may be left out at its one value, which is in range: both its sides are this value; where it is whole, so is
-- the value
pub record GoesAtValue (program : Program) (column : ℕ) (form : Form) : Type 0 where
  pub value : ℚ
  pub is : form ≡ constant_form value
  pub free : IsPlainAndFree program column
  pub fixed : IsFixedAt program column value
  pub whole : slice_get program.integral column ≡ Some true → IsWhole value
  pub in_range : fits_range value ≡ true

-- a whole column may be left out by a form: its source is whole, the form has whole values in range at whole values of
-- the source between its sides, and its constant is in range
pub record GoesWhole (program : Program) (form : Form) : Type 0 where
  pub in_range : fits_range form.constant ≡ true
  pub source : slice_get program.integral form.source ≡ Some true
  pub assigns : FormAssigns form (sides_at program.bounds form.source)

-- a column may be left out by the form of its value, which has a source: it has this value wherever bounds and rows are
-- kept, and keeps its own sides wherever the source does
pub record GoesByForm (program : Program) (column : ℕ) (form : Form) : Type 0 where
  pub free : IsPlainAndFree program column
  pub inside : column < length program.bounds
  pub nonzero : ¬ (form.factor ≡ zeroℚ)
  pub keeps : FormKeeps form (sides_at program.bounds form.source) (sides_at program.bounds column)
  pub forced : (point : List ℚ) → IsRelaxed program point → value_at point column ≡ form_value form point
  pub whole : slice_get program.integral column ≡ Some true → GoesWhole program form

-- a column may be left out
abbrev pub MayGo : Program → ℕ → Form → Type 0
MayGo program column form = GoesAtValue program column form ⊎ GoesByForm program column form

-- each column that is left out may be
pub record MayAllGo (program : Program) (forms : List (Option Form)) : Type 0 where
  pub long : length forms ≡ length program.bounds
  pub each : (column : ℕ) (form : Form) → slice_get forms column ≡ Some (Some form) → MayGo program column form

-- a column stays
abbrev pub IsIn : List (Option Form) → ℕ → Type 0
IsIn forms column = slice_get forms column ≡ Some None

-- each term stands on a column that stays
abbrev pub TermsIn : List (Option Form) → List Term → Type 0
TermsIn forms terms = AllByRecursion (λ t. IsIn forms t.column) terms

-- the source of the column's form stays, where the column is left out and the form has a source
abbrev pub SourceStays : List (Option Form) → ℕ → Type 0
SourceStays forms column =
    (form : Form) → slice_get forms column ≡ Some (Some form) → (form.factor ≡ zeroℚ) ⊎ IsIn forms form.source

-- the source of each form stays
abbrev pub SourcesStay : List (Option Form) → Type 0
SourcesStay forms = (column : ℕ) → SourceStays forms column

-- no column is left out that wasn't, or by another form, and each that stayed stays
pub record GoFewer (old new : List (Option Form)) : Type 0 where
  pub long : length new ≡ length old
  pub gone : (column : ℕ) (form : Form)
      → slice_get new column ≡ Some (Some form) → slice_get old column ≡ Some (Some form)
  pub stays : (column : ℕ) → IsIn old column → IsIn new column
