use Rattle.std.proofs.lemmas.Grind.{common_steps}
use Rattle.std.proofs.Common.{arith}
use Rattle.cip_dict.proofs.whole_sums.part_of.Goals as goal

pub returns-then-g : goal.returns-then-g
returns-then-g c = grind (arith, common_steps)

pub overflow_cast-g : goal.overflow_cast-g
overflow_cast-g c = grind (arith, common_steps)

pub overflow_cast-size : goal.overflow_cast-size
overflow_cast-size c = grind (arith, common_steps)

pub nonzero_div-result : goal.nonzero_div-result
nonzero_div-result c = grind (arith, common_steps)

pub nonzero_rem-size : goal.nonzero_rem-size
nonzero_rem-size c = grind (arith, common_steps)

pub returns-then-g-eq1 : goal.returns-then-g-eq1
returns-then-g-eq1 c = grind (arith, common_steps)

pub returns-then-size-g-eq0 : goal.returns-then-size-g-eq0
returns-then-size-g-eq0 c = grind (arith, common_steps)
