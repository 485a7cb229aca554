use Rattle.std.proofs.lemmas.Grind.{common_steps}
use Rattle.std.proofs.Common.{arith}
use Rattle.cip_tree.proofs.queue.greater.Goals as goal

pub returns-then-is_less : goal.returns-then-is_less
returns-then-is_less c = grind (arith, common_steps)

pub returns-else-is_less : goal.returns-else-is_less
returns-else-is_less c = grind (arith, common_steps)

pub returns-in-Some-None : goal.returns-in-Some-None
returns-in-Some-None c = grind (arith, common_steps)

pub returns-in-None-default : goal.returns-in-None-default
returns-in-None-default c = grind (arith, common_steps)
