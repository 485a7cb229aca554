use Rattle.cip_search.proofs.Pairing.{exact_self, exact_step, step_after, exact_after, infeasible_before}
use Rattle.cip_search.proofs.reduction_laws.steps_follow.Goals as goal

pub returns : goal.returns
returns c = record {
  itself = exact_self;
  weaker = exact_step;
  after = step_after;
  exact_after = exact_after;
  infeasible = infeasible_before;
}
