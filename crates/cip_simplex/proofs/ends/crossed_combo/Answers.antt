use Rattle.std.proofs.lemmas.Grind.{common_steps}
use Rattle.std.proofs.Common.{arith}
use Rattle.cip_simplex.proofs.ends.crossed_combo.Goals as goal

pub returns-else-v-columns : goal.returns-else-v-columns
returns-else-v-columns c = grind (arith, common_steps)

pub returns-then-v-columns : goal.returns-then-v-columns
returns-then-v-columns c = grind (arith, common_steps)

pub overflow_cast-columns : goal.overflow_cast-columns
overflow_cast-columns c = grind (arith, common_steps)

pub overflow_sub-v : goal.overflow_sub-v
overflow_sub-v c = grind (arith, common_steps)
