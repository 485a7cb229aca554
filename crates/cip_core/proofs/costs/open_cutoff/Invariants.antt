use Rattle.cip_core.proofs.CutoffTerms.{CutoffBegun}
use Rattle.cip_core.proofs.costs.open_cutoff.Given as goal

abbrev pub invariant-loop-at : goal.invariant-loop-at
invariant-loop-at l = CutoffBegun l.costs l.at l.row
