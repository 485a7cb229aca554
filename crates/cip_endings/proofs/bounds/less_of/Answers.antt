use Rattle.std.proofs.lemmas.Grind.{common_steps}
use Rattle.std.proofs.Common.{arith}
use Rattle.cip_endings.proofs.bounds.less_of.Goals as goal

pub returns-then-is_no_more : goal.returns-then-is_no_more
returns-then-is_no_more c = grind (arith, common_steps)

pub returns-else-is_no_more : goal.returns-else-is_no_more
returns-else-is_no_more c = grind (arith, common_steps)
