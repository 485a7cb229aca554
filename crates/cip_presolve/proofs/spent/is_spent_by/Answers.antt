use Rattle.std.proofs.lemmas.Bool.{OnTrue_at, OnTrue_from}
use Rattle.cip_presolve.proofs.RowsSpent.{spent_by}
use Rattle.cip_presolve.proofs.spent.is_spent_by.Goals as goal

pub returns-in-Some-form_in : goal.returns-in-Some-form_in
returns-in-Some-form_in c =
    OnTrue_from c.is_same.result _ (λ t. spent_by c.args.forms.now c.args.row.now c.args.column c.in-Some.own c.in-Some-form_in.form c.in-Some.ensures c.in-Some-form_in.ensures (OnTrue_at t c.is_same.ensures))
