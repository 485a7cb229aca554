use Rattle.cip_pricing.proofs.Closing.{closed_least, closed_bound, closed_empty}
use Rattle.cip_pricing.proofs.pricing_closes.Goals as goal

pub returns : goal.returns
returns c = record { closed = closed_least; bound = closed_bound; no_point = closed_empty }
