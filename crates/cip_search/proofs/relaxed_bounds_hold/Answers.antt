use Rattle.cip_search.proofs.Relaxed.{optimum, greater, wider}
use Rattle.cip_search.proofs.relaxed_bounds_hold.Goals as goal

pub returns : goal.returns
returns c = record { optimum = optimum; greater = greater; wider = wider }
