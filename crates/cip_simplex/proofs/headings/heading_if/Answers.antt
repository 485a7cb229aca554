use Rattle.std.proofs.lemmas.Grind.{common_steps}
use Rattle.std.proofs.Common.{arith}
use Rattle.cip_simplex.proofs.headings.heading_if.Goals as goal

pub returns-else-stays : goal.returns-else-stays
returns-else-stays c = grind (arith, common_steps)

pub returns-then-stays : goal.returns-then-stays
returns-then-stays c = grind (arith, common_steps)
