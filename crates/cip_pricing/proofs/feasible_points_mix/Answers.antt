use Rattle.cip_pricing.proofs.Picked.{block_part, meets_master}
use Rattle.cip_pricing.proofs.Mixing.{feasible_mixture}
use Rattle.cip_pricing.proofs.feasible_points_mix.Goals as goal

pub returns : goal.returns
returns c = record { parts = block_part; mixture = feasible_mixture; meets = meets_master }
