use Rattle.cip_presolve.proofs.Plans.{TargetsTo}
use Rattle.cip_presolve.proofs.moves.targets.Given as goal

abbrev pub invariant-loop-column : goal.invariant-loop-column
invariant-loop-column l = TargetsTo l.rising l.free l.draft l.targets.items l.column
