use Rattle.cip_problem.proofs.Covers.{replaced_by_none, pruned, changed, split}
use Rattle.cip_problem.proofs.cuts.nodes_are_replaced.Goals as goal

pub returns : goal.returns
returns c = record { closed = replaced_by_none; pruned = pruned; changed = changed; split = split }
