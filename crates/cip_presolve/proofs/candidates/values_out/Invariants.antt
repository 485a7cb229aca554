use Rattle.cip_presolve.proofs.MayLeave.{FirstMayGo}
use Rattle.cip_presolve.proofs.candidates.values_out.Given as goal

abbrev pub invariant-loop-column : goal.invariant-loop-column
invariant-loop-column l = FirstMayGo l.draft l.forms.items l.column
