use Rattle.std.proofs.Common.{◌≡◌, map, take}
use Rattle.cip_problem.specs.Multipliers.{row_sides}
use Rattle.cip_leaf.proofs.first_values.all_sides.Given as goal

abbrev pub invariant-loop-row : goal.invariant-loop-row
invariant-loop-row l = l.sides.items ≡ map row_sides (take l.row-index l.rows)
