use Rattle.std.proofs.lemmas.Grind.{common_steps}
use Rattle.std.proofs.Common.{arith}
use Rattle.cip_lp.proofs.parts.is_sign.Goals as goal

pub returns-else-byte-eq43 : goal.returns-else-byte-eq43
returns-else-byte-eq43 c = grind (arith, common_steps)

pub returns-then-byte-eq43 : goal.returns-then-byte-eq43
returns-then-byte-eq43 c = grind (arith, common_steps)
