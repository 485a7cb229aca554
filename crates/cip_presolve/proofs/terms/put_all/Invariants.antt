use Rattle.cip_presolve.proofs.TermsPut.{PutTo}
use Rattle.cip_presolve.proofs.terms.put_all.Given as goal

abbrev pub invariant-loop-term : goal.invariant-loop-term
invariant-loop-term l = PutTo l.initial.row l.initial.one l.initial.other l.terms l.term-index l.row l.one l.other
