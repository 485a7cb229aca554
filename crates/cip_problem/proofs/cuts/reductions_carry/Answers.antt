use Rattle.cip_problem.proofs.Reductions.{reduction_itself, reduction_bound, reduction_no_point, reduction_chain}
use Rattle.cip_problem.proofs.cuts.reductions_carry.Goals as goal

pub returns : goal.returns
returns c = record {
  itself = reduction_itself;
  bound = reduction_bound;
  no_point = reduction_no_point;
  chain = reduction_chain;
}
