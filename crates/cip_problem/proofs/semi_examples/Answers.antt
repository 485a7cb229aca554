use Rattle.cip_problem.proofs.SemiTried as tried
use Rattle.cip_problem.proofs.semi_examples.Goals as goal

pub returns : goal.returns
returns c = record {
  well_formed = tried.well_formed;
  feasible = tried.feasible;
  cost = tried.cost;
  row_broken = tried.row_broken;
  neither = tried.neither;
  count = tried.leaves;
  off = tried.off;
  on = tried.on;
  choice_made = tried.choice_made;
  on_open = tried.on_open;
  made_twice = tried.made_twice;
}
