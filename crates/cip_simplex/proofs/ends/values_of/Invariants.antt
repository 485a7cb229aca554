use Rattle.std.proofs.Common.{◌≡◌}
use Rattle.cip_bland.specs.Tables.{table}
use Rattle.cip_bland.specs.Dictionary as def
use Rattle.cip_simplex.proofs.ends.values_of.Given as goal

abbrev pub invariant-loop-v : goal.invariant-loop-v
invariant-loop-v l = l.values.items ≡ table l.v (def.value l.dict)
