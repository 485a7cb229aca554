use Rattle.std.proofs.lemmas.Grind.{common_steps}
use Rattle.std.proofs.Common.{arith}
use Rattle.cip_relax.proofs.guessing.weighed.Goals as goal

pub returns-then-reaches_cost : goal.returns-then-reaches_cost
returns-then-reaches_cost c = grind (arith, common_steps)

pub returns-else-reaches_cost : goal.returns-else-reaches_cost
returns-else-reaches_cost c = grind (arith, common_steps)

pub returns-in_default : goal.returns-in_default
returns-in_default c = grind (arith, common_steps)
