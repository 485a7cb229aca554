use Rattle.std.proofs.lemmas.Grind.{common_steps}
use Rattle.std.proofs.Common.{arith}
use Rattle.cip_dict.proofs.whole_sums.common_with.Goals as goal

pub returns-then-g : goal.returns-then-g
returns-then-g c = grind (arith, common_steps)

pub overflow_cast-size : goal.overflow_cast-size
overflow_cast-size c = grind (arith, common_steps)

pub overflow_cast-g : goal.overflow_cast-g
overflow_cast-g c = grind (arith, common_steps)

pub returns-then-g-2 : goal.returns-then-g-2
returns-then-g-2 c = grind (arith, common_steps)

pub returns-else-g-2 : goal.returns-else-g-2
returns-else-g-2 c = grind (arith, common_steps)

pub overflow_cast-rest : goal.overflow_cast-rest
overflow_cast-rest c = grind (arith, common_steps)

pub nonzero_rem-rest : goal.nonzero_rem-rest
nonzero_rem-rest c = grind (arith, common_steps)

pub overflow_cast-g-then-g-2 : goal.overflow_cast-g-then-g-2
overflow_cast-g-then-g-2 c = grind (arith, common_steps)
