use Rattle.std.proofs.Common.{None}
use Rattle.cip_bland.specs.Dictionary.{size, cost_entry}
use Rattle.cip_bland.specs.Rule.{improves}
use Rattle.cip_dict.specs.SparseLines.{kept_of}
use Rattle.cip_simplex.proofs.RowPasses.{IsSearched}
use Rattle.cip_simplex.proofs.choice.least_improving.Given as goal

abbrev pub invariant-loop-at : goal.invariant-loop-at
invariant-loop-at l = IsSearched (improves l.dict) (size l.dict) (kept_of (size l.dict) (cost_entry l.dict)) l.at None
