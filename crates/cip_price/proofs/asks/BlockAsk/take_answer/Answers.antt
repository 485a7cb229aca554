use Rattle.std.proofs.lemmas.Grind.{common_steps}
use Rattle.std.proofs.Common.{arith}
use Rattle.cip_price.proofs.asks.BlockAsk.take_answer.Goals as goal

pub accept-accepted-requires-clause-task : goal.accept-accepted-requires-clause-task
accept-accepted-requires-clause-task g c = grind (arith, common_steps)

pub returns-in_default-clause-tells : goal.returns-in_default-clause-tells
returns-in_default-clause-tells g c = grind (arith, common_steps)

pub returns-clause-tells : goal.returns-clause-tells
returns-clause-tells g c = grind (arith, common_steps)

pub accept-accepted-requires-clause-room : goal.accept-accepted-requires-clause-room
accept-accepted-requires-clause-room g c = grind (arith, common_steps)

pub returns-clause-room : goal.returns-clause-room
returns-clause-room g c = grind (arith, common_steps)

pub returns-clause-task : goal.returns-clause-task
returns-clause-task g c = grind (arith, common_steps)

pub returns-clause-grows : goal.returns-clause-grows
returns-clause-grows g c = grind (arith, common_steps)

pub returns-in_default-clause-task : goal.returns-in_default-clause-task
returns-in_default-clause-task g c = grind (arith, common_steps)

pub returns-in_default-clause-grows : goal.returns-in_default-clause-grows
returns-in_default-clause-grows g c = grind (arith, common_steps)

pub offer_points-requires-clause-block : goal.offer_points-requires-clause-block
offer_points-requires-clause-block g c = grind (arith, common_steps)

pub accept-accepted-requires-clause-ask : goal.accept-accepted-requires-clause-ask
accept-accepted-requires-clause-ask g c = grind (arith, common_steps)

pub returns-in_default-clause-room : goal.returns-in_default-clause-room
returns-in_default-clause-room g c = grind (arith, common_steps)

pub offer_points-requires-clause-task : goal.offer_points-requires-clause-task
offer_points-requires-clause-task g c = grind (arith, common_steps)

pub returns-in_default-clause-found : goal.returns-in_default-clause-found
returns-in_default-clause-found g c = grind (arith, common_steps)
