use Rattle.cip_search.proofs.LeavesTried.{leaf, outside, wide, narrow, no_row, cost, shifted, picked, spread, on_leaf, on_point, not_off, no_choice}
use Rattle.cip_search.proofs.leaf_laws.examples.Goals as goal

pub returns : goal.returns
returns c = record {
  leaf = leaf;
  outside = outside;
  wide = wide;
  narrow = narrow;
  no_row = no_row;
  cost = cost;
  shifted = shifted;
  picked = picked;
  spread = spread;
  on_leaf = on_leaf;
  on_point = on_point;
  not_off = not_off;
  no_choice = no_choice;
}
