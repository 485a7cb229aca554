use Rattle.cip_search.proofs.Pairing.{step_pair, exact_step_pair, pair_after, exact_pair_after}
use Rattle.cip_search.proofs.reduction_laws.pairs_follow.Goals as goal

pub returns : goal.returns
returns c = record {
  step = step_pair;
  exact_step = exact_step_pair;
  after = pair_after;
  exact_after = exact_pair_after;
}
