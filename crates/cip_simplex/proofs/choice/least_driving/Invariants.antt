use Rattle.std.proofs.Common.{None}
use Rattle.cip_bland.specs.Dictionary.{size, entry}
use Rattle.cip_bland.specs.Rule as rule
use Rattle.cip_dict.specs.SparseLines.{kept_of}
use Rattle.cip_simplex.proofs.RowPasses.{IsSearched}
use Rattle.cip_simplex.proofs.choice.least_driving.Given as goal

abbrev pub invariant-loop-at : goal.invariant-loop-at
invariant-loop-at l = IsSearched (rule.drives l.dict (entry l.dict l.i) l.heading) (size l.dict) (kept_of (size l.dict) (entry l.dict l.i)) l.at None
