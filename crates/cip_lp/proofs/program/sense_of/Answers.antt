use Rattle.std.proofs.lemmas.Grind.{common_steps}
use Rattle.std.proofs.Common.{arith}
use Rattle.cip_lp.proofs.program.sense_of.Goals as goal

pub returns-then-maximized : goal.returns-then-maximized
returns-then-maximized c = grind (arith, common_steps)

pub returns-else-maximized : goal.returns-else-maximized
returns-else-maximized c = grind (arith, common_steps)
