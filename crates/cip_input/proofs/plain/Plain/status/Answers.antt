use Rattle.std.proofs.lemmas.Grind.{common_steps}
use Rattle.std.proofs.Common.{arith}
use Rattle.cip_input.proofs.plain.Plain.status.Goals as goal

pub returns-in-Refused : goal.returns-in-Refused
returns-in-Refused c = grind (arith, common_steps)

pub returns-in-NoMemory : goal.returns-in-NoMemory
returns-in-NoMemory c = grind (arith, common_steps)

pub returns-in-ReadFault : goal.returns-in-ReadFault
returns-in-ReadFault c = grind (arith, common_steps)

pub returns-in-Usage : goal.returns-in-Usage
returns-in-Usage c = grind (arith, common_steps)
