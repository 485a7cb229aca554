use Rattle.std.proofs.lemmas.Grind.{common_steps}
use Rattle.std.proofs.Common.{arith}
use Rattle.cip_price.proofs.bounding.sum_of_round.Goals as goal

pub lagrange-requires-clause-room : goal.lagrange-requires-clause-room
lagrange-requires-clause-room c = grind (arith, common_steps)

pub returns-in-Ok-clause-summed : goal.returns-in-Ok-clause-summed
returns-in-Ok-clause-summed c = grind (arith, common_steps)

pub returns-in-Err-clause-summed : goal.returns-in-Err-clause-summed
returns-in-Err-clause-summed c = grind (arith, common_steps)

pub returns-in-Err-clause-holds : goal.returns-in-Err-clause-holds
returns-in-Err-clause-holds c = grind (arith, common_steps)

pub lagrange-requires-clause-multipliers : goal.lagrange-requires-clause-multipliers
lagrange-requires-clause-multipliers c = grind (arith, common_steps)

pub lagrange-requires-clause-box_ : goal.lagrange-requires-clause-box_
lagrange-requires-clause-box_ c = grind (arith, common_steps)

pub lagrange-requires-clause-trees : goal.lagrange-requires-clause-trees
lagrange-requires-clause-trees c = grind (arith, common_steps)

pub returns-in-Ok-clause-fits : goal.returns-in-Ok-clause-fits
returns-in-Ok-clause-fits c = grind (arith, common_steps)

pub returns-in-Err-clause-fits : goal.returns-in-Err-clause-fits
returns-in-Err-clause-fits c = grind (arith, common_steps)

pub lagrange-requires-clause-made : goal.lagrange-requires-clause-made
lagrange-requires-clause-made c = grind (arith, common_steps)

pub new-requires : goal.new-requires
new-requires c = grind (arith, common_steps)
