use Rattle.std.proofs.Common.{◌≡◌, false, take}
use Rattle.cip_price.specs.CrossedSides.{crosses_row}
use Rattle.cip_price.proofs.crossing.crosses_row.Given as goal

abbrev pub invariant-loop-at : goal.invariant-loop-at
invariant-loop-at l = crosses_row l.rows (take l.at l.numbers) ≡ false
