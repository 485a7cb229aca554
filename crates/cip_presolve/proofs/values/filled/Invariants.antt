use Rattle.cip_presolve.proofs.FilledPoints.{FilledTo}
use Rattle.cip_presolve.proofs.values.filled.Given as goal

abbrev pub invariant-loop-column : goal.invariant-loop-column
invariant-loop-column l = FilledTo l.forms l.point l.whole.items l.column
