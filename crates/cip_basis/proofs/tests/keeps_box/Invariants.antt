use Rattle.std.proofs.Common.{◌≡◌, drop}
use Rattle.cip_basis.specs.PointTests.{keeps_box}
use Rattle.cip_basis.proofs.tests.keeps_box.Given as goal

abbrev pub invariant-loop-at : goal.invariant-loop-at
invariant-loop-at l = keeps_box (drop l.at l.sides) (drop l.at l.point) ≡ keeps_box l.sides l.point
