use Rattle.cip_problem.proofs.Bounds.{bound_holds, empty_holds, implied_hold}
use Rattle.cip_problem.proofs.linear_laws.bounds_hold.Goals as goal

pub returns : goal.returns
returns c = record { bound = bound_holds; empty = empty_holds; single = implied_hold }
