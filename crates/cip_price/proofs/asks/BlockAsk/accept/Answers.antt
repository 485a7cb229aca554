use Rattle.std.proofs.lemmas.Grind.{common_steps}
use Rattle.std.proofs.Common.{arith}
use Rattle.cip_price.proofs.asks.BlockAsk.accept.Goals as goal

pub returns-in-None-clause-accepted : goal.returns-in-None-clause-accepted
returns-in-None-clause-accepted c = grind (arith, common_steps)

pub returns-in-Some-bound_of-clause-accepted : goal.returns-in-Some-bound_of-clause-accepted
returns-in-Some-bound_of-clause-accepted c = grind (arith, common_steps)

pub returns-in_default-clause-accepted : goal.returns-in_default-clause-accepted
returns-in_default-clause-accepted c = grind (arith, common_steps)

pub returns-in-Some-bound_of-clause-room : goal.returns-in-Some-bound_of-clause-room
returns-in-Some-bound_of-clause-room c = grind (arith, common_steps)

pub returns-in-None-clause-room : goal.returns-in-None-clause-room
returns-in-None-clause-room c = grind (arith, common_steps)

pub bound_of-requires-clause-room : goal.bound_of-requires-clause-room
bound_of-requires-clause-room c = grind (arith, common_steps)

pub bound_of-requires-clause-task : goal.bound_of-requires-clause-task
bound_of-requires-clause-task c = grind (arith, common_steps)

pub bound_of-requires-clause-ask : goal.bound_of-requires-clause-ask
bound_of-requires-clause-ask c = grind (arith, common_steps)

pub returns-in_default-clause-room : goal.returns-in_default-clause-room
returns-in_default-clause-room c = grind (arith, common_steps)
