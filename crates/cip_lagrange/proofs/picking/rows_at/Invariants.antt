use Rattle.std.proofs.Common.{◌≡◌, map, take}
use Rattle.cip_lagrange.specs.Numbers.{found}
use Rattle.cip_lagrange.specs.Places.{placed_row}
use Rattle.cip_lagrange.proofs.picking.rows_at.Given as goal

abbrev pub invariant-loop-number : goal.invariant-loop-number
invariant-loop-number l = l.kept.items ≡ map (placed_row l.places) (found l.rows (take l.number-index l.numbers))
