use Rattle.cip_cert.proofs.Values.{bound_value, zero_value, one_value}
use Rattle.cip_cert.proofs.laws.bounds_are_those.Goals as goal

pub returns : goal.returns
returns c = record { at_costs = bound_value; at_zero = zero_value; at_one = one_value }
