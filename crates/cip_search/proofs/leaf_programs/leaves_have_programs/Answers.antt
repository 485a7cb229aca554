use Rattle.cip_search.proofs.Merged.{leaf_proper, point_back, point_on, cost_split}
use Rattle.cip_search.proofs.leaf_programs.leaves_have_programs.Goals as goal

pub returns : goal.returns
returns c = record {
  proper = leaf_proper;
  points = point_back;
  all = point_on;
  cost = cost_split;
}
