use Rattle.cip_presolve.proofs.Free.{LockedTo}
use Rattle.cip_presolve.proofs.locks.lock_terms.Given as goal

abbrev pub invariant-loop-term : goal.invariant-loop-term
invariant-loop-term l = LockedTo l.rising l.initial.free.items l.free.items l.low l.high l.terms l.term-index
