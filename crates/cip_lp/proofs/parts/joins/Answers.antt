use Rattle.std.proofs.lemmas.Grind.{common_steps}
use Rattle.std.proofs.Common.{arith}
use Rattle.cip_lp.proofs.parts.joins.Goals as goal

pub returns-then-is_relation_mark : goal.returns-then-is_relation_mark
returns-then-is_relation_mark c = grind (arith, common_steps)

pub returns-else-is_relation_mark : goal.returns-else-is_relation_mark
returns-else-is_relation_mark c = grind (arith, common_steps)

pub returns-then-is_sign : goal.returns-then-is_sign
returns-then-is_sign c = grind (arith, common_steps)
