use Rattle.cip_presolve.proofs.Plans.{EntriesTo}
use Rattle.cip_presolve.proofs.moves.entries.Given as goal

abbrev pub invariant-loop-column : goal.invariant-loop-column
invariant-loop-column l = EntriesTo l.forms l.targets l.plan.items l.column
