use Rattle.cip_lagrange.proofs.FollowedTrees.{tree_bounds}
use Rattle.cip_lagrange.proofs.laws.trees_bound_nodes.Goals as goal

pub returns : goal.returns
returns c = tree_bounds
