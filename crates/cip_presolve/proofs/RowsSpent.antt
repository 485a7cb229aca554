-- A row that goes with a column.
use Rattle.std.proofs.Common.{◌≡◌, ℕ, zero, suc, List, [], ◌∷◌, Option, None, Some, IfSome, slice_get, sym, subst, ap, true, true≢false}
use Rattle.std.specs.Prelude.{slice_index_or, is_some}
use Rattle.std.proofs.lemmas.Option.{none-some}
use Rattle.cip_problem.specs.Program.{Row}
use Rattle.cip_search.specs.Forms.{Form}
use Rattle.cip_presolve.specs.ColumnForms.{GivesForm}
use Rattle.cip_presolve.specs.SpentRows.{IsSpentBy, IsSpent}

gone_at : (forms : List (Option Form)) (column : ℕ) (own : Form) → Some own ≡ slice_index_or forms column None → slice_get forms column ≡ Some (Some own)
gone_at [] column own e = absurd (none-some own (sym e))
gone_at (f ∷ forms) zero own e = ap Some (sym e)
gone_at (f ∷ forms) (suc column) own e = gone_at forms column own e

pub spent_by : (forms : List (Option Form)) (row : Row) (column : ℕ) (own form : Form) → Some own ≡ slice_index_or forms column None → GivesForm row column form → form ≡ own → IsSpentBy forms row column
spent_by forms row column own form e g k = record { form = own; gone = gone_at forms column own e; gives = subst (λ f. GivesForm row column f) k g }

pub some_spent : (forms : List (Option Form)) (row : Row) (o : Option ℕ) → IfSome o (IsSpentBy forms row) → is_some o ≡ true → IsSpent forms row
some_spent forms row None s e = absurd (true≢false (sym e))
some_spent forms row (Some column) s e = record { column = column; by = s }
