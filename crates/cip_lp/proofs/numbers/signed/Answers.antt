use Rattle.std.proofs.lemmas.Grind.{common_steps}
use Rattle.std.proofs.Common.{arith}
use Rattle.cip_lp.proofs.numbers.signed.Goals as goal

pub returns-else-minus : goal.returns-else-minus
returns-else-minus c = grind (arith, common_steps)

pub returns-then-minus : goal.returns-then-minus
returns-then-minus c = grind (arith, common_steps)
