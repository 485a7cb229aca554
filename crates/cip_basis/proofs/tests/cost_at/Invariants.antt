use Rattle.std.proofs.Common.{◌≡◌, drop}
use Rattle.cip_rational.specs.Rational.{zeroℚ}
use Rattle.cip_frac.specs.Outcomes.{dot_from}
use Rattle.cip_basis.proofs.tests.cost_at.Given as goal

abbrev pub invariant-loop-at : goal.invariant-loop-at
invariant-loop-at l = dot_from l.sum (drop l.at l.costs) (drop l.at l.point) ≡ dot_from zeroℚ l.costs l.point
