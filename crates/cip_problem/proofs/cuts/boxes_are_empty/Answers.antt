use Rattle.cip_problem.proofs.Emptiness.{closed_by_bound, crossed_is_empty, no_whole_is_empty}
use Rattle.cip_problem.proofs.cuts.boxes_are_empty.Goals as goal

pub returns : goal.returns
returns c = record { by_bound = closed_by_bound; crossed = crossed_is_empty; no_whole = no_whole_is_empty }
