use Rattle.std.proofs.lemmas.Grind.{common_steps}
use Rattle.std.proofs.Common.{arith}
use Rattle.cip_price.proofs.asks.costs_at.Goals as goal

pub returns : goal.returns
returns c = grind (arith, common_steps)

pub bounds-rests-number : goal.bounds-rests-number
bounds-rests-number c = grind (arith, common_steps)

pub offset_bounds-rests-number : goal.offset_bounds-rests-number
offset_bounds-rests-number c = grind (arith, common_steps)

pub offset_bounds-numbers-number-index : goal.offset_bounds-numbers-number-index
offset_bounds-numbers-number-index c = grind (arith, common_steps)

pub loop-number-init : goal.loop-number-init
loop-number-init c = grind (arith, common_steps)
