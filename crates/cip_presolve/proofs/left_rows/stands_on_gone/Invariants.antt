use Rattle.std.proofs.Common.{◌≡◌, drop}
use Rattle.cip_presolve.specs.LeftProgram.{stands_on_gone}
use Rattle.cip_presolve.proofs.left_rows.stands_on_gone.Given as goal

abbrev pub invariant-loop-term : goal.invariant-loop-term
invariant-loop-term l = stands_on_gone l.gone (drop l.term-index l.terms) ≡ stands_on_gone l.gone l.terms
