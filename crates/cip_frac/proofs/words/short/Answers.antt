use Rattle.std.proofs.lemmas.Grind.{common_steps}
use Rattle.std.proofs.Common.{arith}
use Rattle.cip_frac.proofs.words.short.Goals as goal

pub returns-then-a-2 : goal.returns-then-a-2
returns-then-a-2 c = grind (arith, common_steps)

pub overflow_cast-result : goal.overflow_cast-result
overflow_cast-result c = grind (arith, common_steps)

pub returns-else-a : goal.returns-else-a
returns-else-a c = grind (arith, common_steps)

pub overflow_cast-t-4 : goal.overflow_cast-t-4
overflow_cast-t-4 c = grind (arith, common_steps)

pub overflow_cast-t-5 : goal.overflow_cast-t-5
overflow_cast-t-5 c = grind (arith, common_steps)
