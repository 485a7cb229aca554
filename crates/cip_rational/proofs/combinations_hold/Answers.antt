use Rattle.cip_rational.proofs.Sums.{combine_holds}
use Rattle.cip_rational.proofs.combinations_hold.Goals as goal

pub returns : goal.returns
returns c = combine_holds
