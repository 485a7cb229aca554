use Rattle.cip_presolve.proofs.Free.{RowsLockedTo}
use Rattle.cip_presolve.proofs.locks.free_columns.Given as goal

abbrev pub invariant-loop-row : goal.invariant-loop-row
invariant-loop-row l = RowsLockedTo l.rising l.initial.free.items l.free.items l.forms l.rows l.row-index
