use Rattle.cip_problem.proofs.Log.Halves.{low_node_within, high_node_within}
use Rattle.cip_problem.proofs.halves_within.Goals as goal

pub returns : goal.returns
returns c = record { low = low_node_within; high = high_node_within }
