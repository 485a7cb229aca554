use Rattle.std.proofs.Common.{◌≡◌, map, take}
use Rattle.cip_leaf.specs.Building.{left_of}
use Rattle.cip_leaf.proofs.rows.rows_left.Given as goal

abbrev pub invariant-loop-at : goal.invariant-loop-at
invariant-loop-at l = l.left.items ≡ map (left_of l.whole l.point) (take l.at l.rows)
