use Rattle.std.proofs.Common.{◌≡◌, false, take}
use Rattle.cip_price.specs.CrossedSides.{crosses_column}
use Rattle.cip_price.proofs.crossing.crosses_column.Given as goal

abbrev pub invariant-loop-at : goal.invariant-loop-at
invariant-loop-at l = crosses_column (take l.at l.sides) ≡ false
