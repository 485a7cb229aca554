use Rattle.std.proofs.lemmas.Grind.{common_steps}
use Rattle.std.proofs.Common.{arith}
use Rattle.cip_mps_lines.proofs.set_lines.bound_of_set.Goals as goal

pub returns : goal.returns
returns c = grind (arith, common_steps)

pub returns-then-skips : goal.returns-then-skips
returns-then-skips c = grind (arith, common_steps)
