use Rattle.cip_problem.proofs.BoxBound.BelowCosts.{box_bound_holds, root_bound_holds}
use Rattle.cip_problem.proofs.box_bound_holds.Goals as goal

pub returns : goal.returns
returns c = record { in_box = box_bound_holds; feasible = root_bound_holds }
