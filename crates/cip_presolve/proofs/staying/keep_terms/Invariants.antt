use Rattle.cip_presolve.proofs.StayingColumns.{KeptTo}
use Rattle.cip_presolve.proofs.staying.keep_terms.Given as goal

abbrev pub invariant-loop-term : goal.invariant-loop-term
invariant-loop-term l = KeptTo l.initial.forms.items l.forms.items l.but l.terms l.term-index
