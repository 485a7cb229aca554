use Rattle.std.proofs.Common.{◌≡◌, drop, length}
use Rattle.cip_columns.specs.ColumnPools.{is_inside}
use Rattle.cip_columns.proofs.points.is_inside.Given as goal

abbrev pub invariant-loop-at : goal.invariant-loop-at
invariant-loop-at l = (length l.sides ≡ length l.values) ×
    (is_inside (drop l.at l.sides) (drop l.at l.values) ≡ is_inside l.sides l.values)
