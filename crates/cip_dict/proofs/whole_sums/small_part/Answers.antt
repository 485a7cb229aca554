use Rattle.std.proofs.lemmas.Grind.{common_steps}
use Rattle.std.proofs.Common.{arith}
use Rattle.cip_dict.proofs.whole_sums.small_part.Goals as goal

pub returns-then-z-lt0 : goal.returns-then-z-lt0
returns-then-z-lt0 c = grind (arith, common_steps)

pub returns-else-z-lt0 : goal.returns-else-z-lt0
returns-else-z-lt0 c = grind (arith, common_steps)

pub overflow_sub-result : goal.overflow_sub-result
overflow_sub-result c = grind (arith, common_steps)

pub overflow_cast-number : goal.overflow_cast-number
overflow_cast-number c = grind (arith, common_steps)

pub returns-then-part : goal.returns-then-part
returns-then-part c = grind (arith, common_steps)
