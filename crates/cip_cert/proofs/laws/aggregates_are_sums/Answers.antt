use Rattle.cip_cert.proofs.Sums.{aggregate_sum}
use Rattle.cip_cert.proofs.laws.aggregates_are_sums.Goals as goal

pub returns : goal.returns
returns c = aggregate_sum
