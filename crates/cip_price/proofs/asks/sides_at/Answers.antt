use Rattle.std.proofs.lemmas.Grind.{common_steps}
use Rattle.std.proofs.Common.{arith}
use Rattle.cip_price.proofs.asks.sides_at.Goals as goal

pub returns : goal.returns
returns c = grind (arith, common_steps)

pub sides-requires : goal.sides-requires
sides-requires c = grind (arith, common_steps)

pub offset_bounds-numbers-number-index : goal.offset_bounds-numbers-number-index
offset_bounds-numbers-number-index c = grind (arith, common_steps)

pub returns-in_default : goal.returns-in_default
returns-in_default c = grind (arith, common_steps)
