use Rattle.cip_presolve.specs.ColumnsOut.{MayAllGo}
use Rattle.cip_presolve.proofs.candidates.add_forms.Given as goal

abbrev pub invariant-loop-number : goal.invariant-loop-number
invariant-loop-number l = MayAllGo l.draft l.forms.items
