use Rattle.cip_pricing.proofs.Rests.{rests_start, rests_step, rests_unique}
use Rattle.cip_pricing.proofs.rests_are_formed.Goals as goal

pub returns : goal.returns
returns c = record { start = rests_start; step = rests_step; unique = rests_unique }
