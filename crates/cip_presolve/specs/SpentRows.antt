-- Rows that are left out with a column whose form they give, and the others, which stand on columns that stay.
use Rattle.std.specs.Prelude.{◌≡◌, ◌⊎◌, ℕ, List, Option, Some, slice_get}
use Rattle.std.specs.List.{AllByRecursion}
use Rattle.cip_problem.specs.Program.{Term, Row}
use Rattle.cip_presolve.specs.Forms.{Form}
use Rattle.cip_presolve.specs.ColumnForms.{GivesForm}
use Rattle.cip_presolve.specs.ColumnsOut.{IsIn, TermsIn}

-- a column is left out by the form that a row gives it
pub record IsSpentBy (forms : List (Option Form)) (row : Row) (column : ℕ) : Type 0 where
  pub form : Form
  pub gone : slice_get forms column ≡ Some (Some form)
  pub gives : GivesForm row column form

-- some column is
pub record IsSpent (forms : List (Option Form)) (row : Row) : Type 0 where
  pub column : ℕ
  pub by : IsSpentBy forms row column

-- each term stands on a column that stays, but for those on one column
abbrev pub TermsInBut : List (Option Form) → Option ℕ → List Term → Type 0
TermsInBut forms but terms = AllByRecursion (λ t. (but ≡ Some t.column) ⊎ IsIn forms t.column) terms

-- a row stands on columns that stay, or gives a column that is left out its form
abbrev pub RowGoes : List (Option Form) → Row → Type 0
RowGoes forms row = TermsIn forms row.terms ⊎ IsSpent forms row

abbrev pub RowsGo : List (Option Form) → List Row → Type 0
RowsGo forms rows = AllByRecursion (RowGoes forms) rows
