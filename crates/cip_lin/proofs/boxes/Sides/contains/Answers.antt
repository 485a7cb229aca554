use Rattle.std.proofs.lemmas.Grind.{common_steps}
use Rattle.std.proofs.Common.{arith}
use Rattle.cip_lin.proofs.boxes.Sides.contains.Goals as goal

pub returns-then-is_at_least : goal.returns-then-is_at_least
returns-then-is_at_least c = grind (arith, common_steps)

pub returns-else-is_at_least : goal.returns-else-is_at_least
returns-else-is_at_least c = grind (arith, common_steps)
