use Rattle.std.proofs.lemmas.Grind.{common_steps}
use Rattle.std.proofs.Common.{arith}
use Rattle.cip_dict.proofs.lines.is_absent_on.Goals as goal

pub returns-else-is_basic : goal.returns-else-is_basic
returns-else-is_basic c = grind (arith, common_steps)

pub returns-then-is_basic : goal.returns-then-is_basic
returns-then-is_basic c = grind (arith, common_steps)
