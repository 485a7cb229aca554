use Rattle.std.proofs.lemmas.Grind.{common_steps}
use Rattle.std.proofs.Common.{arith}
use Rattle.cip_lp.proofs.parts.is_relation_mark.Goals as goal

pub returns-then-byte-eq61 : goal.returns-then-byte-eq61
returns-then-byte-eq61 c = grind (arith, common_steps)

pub returns-else-byte-eq61 : goal.returns-else-byte-eq61
returns-else-byte-eq61 c = grind (arith, common_steps)
