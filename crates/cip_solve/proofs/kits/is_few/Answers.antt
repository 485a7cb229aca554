use Rattle.std.proofs.lemmas.Grind.{common_steps}
use Rattle.std.proofs.Common.{arith}
use Rattle.cip_solve.proofs.kits.is_few.Goals as goal

pub returns-else-start-most : goal.returns-else-start-most
returns-else-start-most c = grind (arith, common_steps)

pub returns-then-start-most : goal.returns-then-start-most
returns-then-start-most c = grind (arith, common_steps)

pub overflow_cast-most : goal.overflow_cast-most
overflow_cast-most c = grind (arith, common_steps)
