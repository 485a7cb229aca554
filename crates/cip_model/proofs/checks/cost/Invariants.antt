use Rattle.std.proofs.Common.{◌≡◌, drop}
use Rattle.cip_frac.specs.Outcomes.{dot_from}
use Rattle.cip_model.proofs.checks.cost.Given as goal

abbrev pub invariant-loop-at : goal.invariant-loop-at
invariant-loop-at l = dot_from l.sum (drop l.at l.costs) (drop l.at l.point) ≡ dot_from l.fn.constant l.costs l.point
