use Rattle.cip_pricing.proofs.Shown.{least_shown, none_shown}
use Rattle.cip_pricing.proofs.least_costs_are_shown.Goals as goal

pub returns : goal.returns
returns c = record { mixtures = least_shown; none = none_shown }
