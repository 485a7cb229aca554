use Rattle.cip_problem.proofs.CutTried as tried
use Rattle.cip_problem.proofs.cuts.examples.Goals as goal

pub returns : goal.returns
returns c = record {
  can_round = tried.can_round;
  rounded_row = tried.rounded_row;
  continuous = tried.continuous;
  fractional = tried.fractional;
  continuous_zero = tried.continuous_zero;
  inward = tried.inward;
  terms = tried.terms;
  split = tried.split;
  without_a_side = tried.without_a_side;
  fractional_form = tried.fractional_form;
}
