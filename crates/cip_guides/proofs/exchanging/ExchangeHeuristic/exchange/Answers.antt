use Rattle.std.proofs.lemmas.Grind.{common_steps}
use Rattle.std.proofs.Common.{arith}
use Rattle.cip_guides.proofs.exchanging.ExchangeHeuristic.exchange.Goals as goal

pub offset_bounds-term-items-term-index : goal.offset_bounds-term-items-term-index
offset_bounds-term-items-term-index c = grind (arith, common_steps)

pub loop-term-preserved : goal.loop-term-preserved
loop-term-preserved c = grind (arith, common_steps)
