use Rattle.cip_problem.proofs.Bounds.{inner_bound, inner_empty}
use Rattle.cip_problem.proofs.linear_laws.inner_bounds.Goals as goal

pub returns : goal.returns
returns c = record { bound = inner_bound; empty = inner_empty }
