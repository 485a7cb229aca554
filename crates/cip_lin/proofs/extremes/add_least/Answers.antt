use Rattle.std.proofs.lemmas.Grind.{common_steps}
use Rattle.std.proofs.Common.{arith}
use Rattle.cip_lin.proofs.extremes.add_least.Goals as goal

pub returns-else-add_product : goal.returns-else-add_product
returns-else-add_product c = grind (arith, common_steps)

pub returns-then-add_product : goal.returns-then-add_product
returns-then-add_product c = grind (arith, common_steps)

pub returns-in_default : goal.returns-in_default
returns-in_default c = grind (arith, common_steps)
