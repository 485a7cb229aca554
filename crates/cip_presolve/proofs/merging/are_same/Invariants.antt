use Rattle.cip_presolve.proofs.Merged.{SameTo}
use Rattle.cip_presolve.proofs.merging.are_same.Given as goal

abbrev pub invariant-loop-at : goal.invariant-loop-at
invariant-loop-at l = SameTo l.ones l.others l.at
