use Rattle.std.proofs.Common.{◌≡◌}
use Rattle.cip_bland.specs.Tables.{table}
use Rattle.cip_dict.specs.FirstLists.{stand_in}
use Rattle.cip_simplex.proofs.starts.Start.slack.Given as goal

abbrev pub invariant-loop-v : goal.invariant-loop-v
invariant-loop-v l = l.standing.items ≡ table l.v (stand_in l.sides)
