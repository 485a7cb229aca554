use Rattle.std.proofs.lemmas.Grind.{common_steps}
use Rattle.std.proofs.Common.{arith}
use Rattle.cip_mps_lines.proofs.set_lines.range_of_set.Goals as goal

pub returns-else-skips : goal.returns-else-skips
returns-else-skips c = grind (arith, common_steps)

pub returns-then-skips : goal.returns-then-skips
returns-then-skips c = grind (arith, common_steps)
