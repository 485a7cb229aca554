use Rattle.std.proofs.lemmas.Grind.{common_steps}
use Rattle.std.proofs.Common.{arith}
use Rattle.cip_text.proofs.line_cuts.is_blank.Goals as goal

pub returns-then-byte-eq9 : goal.returns-then-byte-eq9
returns-then-byte-eq9 c = grind (arith, common_steps)

pub returns-else-byte-eq9 : goal.returns-else-byte-eq9
returns-else-byte-eq9 c = grind (arith, common_steps)
