-- Rows whose columns stay, but for one that each gives its form, whether or not that is left out in the end.
use Rattle.std.specs.Prelude.{◌≡◌, ◌⊎◌, ℕ, List, Option, Some, slice_get}
use Rattle.std.specs.List.{AllByRecursion}
use Rattle.cip_problem.specs.Program.{Row}
use Rattle.cip_presolve.specs.Forms.{Form}
use Rattle.cip_presolve.specs.ColumnForms.{GivesForm}
use Rattle.cip_presolve.specs.ColumnsOut.{IsIn, TermsIn}
use Rattle.cip_presolve.specs.SpentRows.{TermsInBut}

-- the columns of a row stay but for one, which is left out by the form that the row gives it, or stays too
pub record IsKeptBut (forms : List (Option Form)) (row : Row) : Type 0 where
  pub column : ℕ
  pub form : Form
  pub gives : GivesForm row column form
  pub state : (slice_get forms column ≡ Some (Some form)) ⊎ IsIn forms column
  pub others : TermsInBut forms (Some column) row.terms

abbrev pub RowKept : List (Option Form) → Row → Type 0
RowKept forms row = TermsIn forms row.terms ⊎ IsKeptBut forms row

abbrev pub RowsKept : List (Option Form) → List Row → Type 0
RowsKept forms rows = AllByRecursion (RowKept forms) rows
