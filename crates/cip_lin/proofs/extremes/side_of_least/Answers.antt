use Rattle.std.proofs.lemmas.Grind.{common_steps}
use Rattle.std.proofs.Common.{arith}
use Rattle.cip_lin.proofs.extremes.side_of_least.Goals as goal

pub returns-else-is_negative : goal.returns-else-is_negative
returns-else-is_negative c = grind (arith, common_steps)

pub returns-then-is_negative : goal.returns-then-is_negative
returns-then-is_negative c = grind (arith, common_steps)
