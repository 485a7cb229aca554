use Rattle.std.proofs.lemmas.Grind.{common_steps}
use Rattle.std.proofs.Common.{arith}
use Rattle.cip_frac.proofs.words.short_signed_part_of.Goals as goal

pub returns-else-g-eq1 : goal.returns-else-g-eq1
returns-else-g-eq1 c = grind (arith, common_steps)

pub returns-then-g-eq1 : goal.returns-then-g-eq1
returns-then-g-eq1 c = grind (arith, common_steps)

pub nonzero_div-result : goal.nonzero_div-result
nonzero_div-result c = grind (arith, common_steps)

pub overflow_cast-result : goal.overflow_cast-result
overflow_cast-result c = grind (arith, common_steps)
