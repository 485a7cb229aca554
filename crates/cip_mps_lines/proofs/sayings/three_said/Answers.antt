use Rattle.std.proofs.lemmas.Grind.{common_steps}
use Rattle.std.proofs.Common.{arith}
use Rattle.cip_mps_lines.proofs.sayings.three_said.Goals as goal

pub returns : goal.returns
returns c = grind (arith, common_steps)

pub returns-then-is_marker : goal.returns-then-is_marker
returns-then-is_marker c = grind (arith, common_steps)
