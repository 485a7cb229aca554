use Rattle.cip_presolve.proofs.StayingColumns.{RowsKeptTo}
use Rattle.cip_presolve.proofs.staying.keep_rows.Given as goal

abbrev pub invariant-loop-row : goal.invariant-loop-row
invariant-loop-row l = RowsKeptTo l.initial.forms.items l.forms.items l.rows l.row-index
