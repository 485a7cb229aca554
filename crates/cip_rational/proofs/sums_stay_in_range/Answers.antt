use Rattle.cip_rational.proofs.Range.InRange.{sum_fits}
use Rattle.cip_rational.proofs.sums_stay_in_range.Goals as goal

pub returns : goal.returns
returns c = sum_fits
