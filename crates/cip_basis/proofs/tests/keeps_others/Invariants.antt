use Rattle.std.proofs.Common.{◌≡◌, drop}
use Rattle.cip_basis.specs.PointTests.{keeps_rows}
use Rattle.cip_basis.specs.Shown.{lent_rows}
use Rattle.cip_basis.proofs.tests.keeps_others.Given as goal

abbrev pub invariant-loop-at : goal.invariant-loop-at
invariant-loop-at l = keeps_rows (lent_rows (drop l.at l.rows)) l.point ≡ keeps_rows (lent_rows l.rows) l.point
