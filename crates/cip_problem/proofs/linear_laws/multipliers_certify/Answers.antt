use Rattle.cip_problem.proofs.Certificates.{combination_bound, combination_parts, certified_optimal, certified_empty}
use Rattle.cip_problem.proofs.linear_laws.multipliers_certify.Goals as goal

pub returns : goal.returns
returns c = record {
  bound = combination_bound;
  parts = combination_parts;
  optimal = certified_optimal;
  no_point = certified_empty;
}
