use Rattle.cip_presolve.proofs.MovedRows.{MovedTo}
use Rattle.cip_presolve.proofs.left_rows.move_all.Given as goal

abbrev pub invariant-loop-at : goal.invariant-loop-at
invariant-loop-at l = MovedTo l.numbers l.initial.rows.items l.rows.items l.at
