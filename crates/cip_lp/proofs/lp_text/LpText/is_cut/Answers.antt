use Rattle.std.proofs.lemmas.Grind.{common_steps}
use Rattle.std.proofs.Common.{arith}
use Rattle.cip_lp.proofs.lp_text.LpText.is_cut.Goals as goal

pub returns-after-self : goal.returns-after-self
returns-after-self c = grind (arith, common_steps)

pub returns-else-ends_with : goal.returns-else-ends_with
returns-else-ends_with c = grind (arith, common_steps)

pub returns-then-byte-eq92 : goal.returns-then-byte-eq92
returns-then-byte-eq92 c = grind (arith, common_steps)
