use Rattle.std.proofs.lemmas.Grind.{common_steps}
use Rattle.std.proofs.Common.{arith}
use Rattle.cip_simplex.proofs.candidates.better_of.Goals as goal

pub returns-else-is_better : goal.returns-else-is_better
returns-else-is_better c = grind (arith, common_steps)

pub returns-then-is_better : goal.returns-then-is_better
returns-then-is_better c = grind (arith, common_steps)

pub returns-in-None : goal.returns-in-None
returns-in-None c = grind (arith, common_steps)
