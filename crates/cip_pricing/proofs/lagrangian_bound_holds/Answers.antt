use Rattle.cip_pricing.proofs.Shown.{lagrange_shows, feasible_shown, no_block_point}
use Rattle.cip_pricing.proofs.lagrangian_bound_holds.Goals as goal

pub returns : goal.returns
returns c = record { shows = lagrange_shows; feasible = feasible_shown; no_point = no_block_point }
