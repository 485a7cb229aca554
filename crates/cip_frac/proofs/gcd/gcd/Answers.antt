use Rattle.std.proofs.lemmas.Grind.{common_steps}
use Rattle.std.proofs.Common.{arith}
use Rattle.cip_frac.proofs.gcd.gcd.Goals as goal

pub overflow_cast-b : goal.overflow_cast-b
overflow_cast-b c = grind (arith, common_steps)

pub overflow_cast-result : goal.overflow_cast-result
overflow_cast-result c = grind (arith, common_steps)

pub overflow_cast-a : goal.overflow_cast-a
overflow_cast-a c = grind (arith, common_steps)

pub returns-then-b : goal.returns-then-b
returns-then-b c = grind (arith, common_steps)

pub returns-else-a : goal.returns-else-a
returns-else-a c = grind (arith, common_steps)
