use Rattle.cip_search.proofs.Points.{own_leaf, feasible_leaf, only_leaf, only_leaf_of, whole_leaf}
use Rattle.cip_search.proofs.leaf_laws.points_have_leaves.Goals as goal

pub returns : goal.returns
returns c = record {
  own = own_leaf;
  only_values = only_leaf;
  feasible = feasible_leaf;
  only = only_leaf_of;
  whole = whole_leaf;
}
