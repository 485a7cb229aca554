use Rattle.cip_presolve.proofs.CopiedParts.{NamesTo}
use Rattle.cip_presolve.proofs.copies.names_left.Given as goal

abbrev pub invariant-loop-at : goal.invariant-loop-at
invariant-loop-at l = NamesTo l.gone l.names l.left l.at
