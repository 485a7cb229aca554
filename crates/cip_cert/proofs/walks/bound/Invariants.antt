use Rattle.std.proofs.Common.{◌≡◌, drop}
use Rattle.cip_cert.specs.Checks.{bound_from}
use Rattle.cip_cert.proofs.walks.bound.Given as goal

abbrev pub invariant-loop-at : goal.invariant-loop-at
invariant-loop-at l = bound_from l.at l.sum (drop l.at l.costs) (drop l.at l.entries) (drop l.at l.sides) ≡ bound_from 0 l.fn.start l.costs l.entries l.sides
