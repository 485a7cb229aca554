use Rattle.std.proofs.lemmas.Grind.{common_steps}
use Rattle.std.proofs.Common.{arith}
use Rattle.cip_text.proofs.parts.is_exponent_mark.Goals as goal

pub returns-else-byte-eq101 : goal.returns-else-byte-eq101
returns-else-byte-eq101 c = grind (arith, common_steps)

pub returns-then-byte-eq101 : goal.returns-then-byte-eq101
returns-then-byte-eq101 c = grind (arith, common_steps)
