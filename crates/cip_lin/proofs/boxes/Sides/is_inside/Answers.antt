use Rattle.std.proofs.lemmas.Grind.{common_steps}
use Rattle.std.proofs.Common.{arith}
use Rattle.cip_lin.proofs.boxes.Sides.is_inside.Goals as goal

pub returns-then-is_low_inside : goal.returns-then-is_low_inside
returns-then-is_low_inside c = grind (arith, common_steps)

pub returns-else-is_low_inside : goal.returns-else-is_low_inside
returns-else-is_low_inside c = grind (arith, common_steps)
