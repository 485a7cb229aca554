use Rattle.std.proofs.lemmas.Grind.{common_steps}
use Rattle.std.proofs.Common.{arith}
use Rattle.cip_price.proofs.offering.growth_of.Goals as goal

pub returns-in-Known : goal.returns-in-Known
returns-in-Known c = grind (arith, common_steps)

pub returns-in-Full : goal.returns-in-Full
returns-in-Full c = grind (arith, common_steps)

pub returns-in-New : goal.returns-in-New
returns-in-New c = grind (arith, common_steps)
