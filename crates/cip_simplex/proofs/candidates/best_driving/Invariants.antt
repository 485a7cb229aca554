use Rattle.cip_bland.specs.Dictionary.{size, entry}
use Rattle.cip_bland.specs.Rule.{drives}
use Rattle.cip_dict.specs.SparseLines.{kept_of}
use Rattle.cip_simplex.proofs.RowPasses.{IsSearched}
use Rattle.cip_simplex.proofs.candidates.best_driving.Given as goal

abbrev pub invariant-loop-at : goal.invariant-loop-at
invariant-loop-at l = IsSearched (drives l.dict (entry l.dict l.i) l.heading) (size l.dict) (kept_of (size l.dict) (entry l.dict l.i)) l.at l.best
