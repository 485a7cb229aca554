use Rattle.std.proofs.Common.{◌≡◌, ◌++◌, drop}
use Rattle.cip_presolve.specs.LeftProgram.{dropped_rows}
use Rattle.cip_presolve.proofs.left_rows.dropped_rows.Given as goal

abbrev pub invariant-loop-row : goal.invariant-loop-row
invariant-loop-row l = l.dropped.items ++ dropped_rows l.gone (drop l.row-index l.rows) ≡ dropped_rows l.gone l.rows
