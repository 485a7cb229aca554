use Rattle.std.proofs.Common.{◌≡◌}
use Rattle.cip_bland.specs.Tables.{table}
use Rattle.cip_simplex.specs.Starts.{wish}
use Rattle.cip_simplex.proofs.starts.Start.fitted.Given as goal

abbrev pub invariant-loop-v : goal.invariant-loop-v
invariant-loop-v l = l.standing.items ≡ table l.v (wish l.self)
