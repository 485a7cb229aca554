use Rattle.std.proofs.lemmas.Grind.{common_steps}
use Rattle.std.proofs.Common.{arith}
use Rattle.cip_handlers.proofs.handling.ClassHandlerPlugin.name.Goals as goal

pub returns-in-SetPart : goal.returns-in-SetPart
returns-in-SetPart c = grind (arith, common_steps)

pub returns-in-SetPack : goal.returns-in-SetPack
returns-in-SetPack c = grind (arith, common_steps)

pub returns-in-Knapsack : goal.returns-in-Knapsack
returns-in-Knapsack c = grind (arith, common_steps)

pub returns-in-Linear : goal.returns-in-Linear
returns-in-Linear c = grind (arith, common_steps)
