use Rattle.std.proofs.lemmas.Grind.{common_steps}
use Rattle.std.proofs.Common.{arith}
use Rattle.cip_plugin.proofs.faults.WishFault.name.Goals as goal

pub returns-in-NoMemory : goal.returns-in-NoMemory
returns-in-NoMemory c = grind (arith, common_steps)

pub returns-in-NoSuchPlugin : goal.returns-in-NoSuchPlugin
returns-in-NoSuchPlugin c = grind (arith, common_steps)

pub returns-in-Gone : goal.returns-in-Gone
returns-in-Gone c = grind (arith, common_steps)

pub returns-in-TakenPlace : goal.returns-in-TakenPlace
returns-in-TakenPlace c = grind (arith, common_steps)

pub returns-in-NoSuchPlace : goal.returns-in-NoSuchPlace
returns-in-NoSuchPlace c = grind (arith, common_steps)
