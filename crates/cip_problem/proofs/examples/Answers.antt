use Rattle.cip_problem.proofs.Tried as tried
use Rattle.cip_problem.proofs.examples.Goals as goal

pub returns : goal.returns
returns c = record {
  well_formed = tried.well_formed;
  feasible = tried.feasible;
  cost = tried.cost;
  cost_printed = tried.cost_printed;
  row_activity = tried.row_activity;
  row_broken = tried.row_broken;
  not_whole = tried.not_whole;
  below_bound = tried.below_bound;
  least = tried.least;
  count = tried.count_as_tried;
  nothing_done = tt;
  root_closed = tried.root_closed;
  root_split = tried.root_split;
  half_open = tried.half_open;
  never_given = tried.never_given;
  taken_twice = tried.taken_twice;
}
