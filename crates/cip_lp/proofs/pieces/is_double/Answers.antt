use Rattle.std.proofs.lemmas.Grind.{common_steps}
use Rattle.std.proofs.Common.{arith}
use Rattle.cip_lp.proofs.pieces.is_double.Goals as goal

pub returns-else-byte-eq61 : goal.returns-else-byte-eq61
returns-else-byte-eq61 c = grind (arith, common_steps)

pub returns-then-begins_with : goal.returns-then-begins_with
returns-then-begins_with c = grind (arith, common_steps)

pub returns-else-begins_with-2 : goal.returns-else-begins_with-2
returns-else-begins_with-2 c = grind (arith, common_steps)

pub returns-then-begins_with-2 : goal.returns-then-begins_with-2
returns-then-begins_with-2 c = grind (arith, common_steps)
