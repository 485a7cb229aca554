use Rattle.std.proofs.Common.{◌≡◌, drop}
use Rattle.cip_model.specs.RayTests.{rows_stay}
use Rattle.cip_model.proofs.rays.keeps_rows.Given as goal

abbrev pub invariant-loop-at : goal.invariant-loop-at
invariant-loop-at l = rows_stay (drop l.at l.rows) l.ray ≡ rows_stay l.rows l.ray
