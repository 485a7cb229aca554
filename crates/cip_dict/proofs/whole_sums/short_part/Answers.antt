use Rattle.std.proofs.lemmas.Grind.{common_steps}
use Rattle.std.proofs.Common.{arith}
use Rattle.cip_dict.proofs.whole_sums.short_part.Goals as goal

pub nonzero_div-part : goal.nonzero_div-part
nonzero_div-part c = grind (arith, common_steps)

pub overflow_mul-part : goal.overflow_mul-part
overflow_mul-part c = grind (arith, common_steps)

pub returns-then-part-g : goal.returns-then-part-g
returns-then-part-g c = grind (arith, common_steps)
