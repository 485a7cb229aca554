use Rattle.std.proofs.lemmas.Grind.{common_steps}
use Rattle.std.proofs.Common.{arith}
use Rattle.cip_price.proofs.offering.joint.Goals as goal

pub returns-in_default : goal.returns-in_default
returns-in_default c = grind (arith, common_steps)

pub returns-in-Full-next : goal.returns-in-Full-next
returns-in-Full-next c = grind (arith, common_steps)

pub returns-in-Same : goal.returns-in-Same
returns-in-Same c = grind (arith, common_steps)

pub returns-in-Full : goal.returns-in-Full
returns-in-Full c = grind (arith, common_steps)
