use Rattle.std.proofs.Common.{◌≡◌}
use Rattle.cip_bland.specs.Tables.{table}
use Rattle.cip_bland.specs.Dictionary as def
use Rattle.cip_dict.specs.SparseLines.{kept_of, IsPlace}
use Rattle.cip_simplex.proofs.ends.cost_combo.Given as goal

abbrev pub invariant-loop-v : goal.invariant-loop-v
invariant-loop-v l = record {
  so_far : l.multipliers.items ≡ table l.v (def.cost_entry l.dict);
  place : IsPlace l.v (kept_of (def.size l.dict) (def.cost_entry l.dict)) l.at;
}
