use Rattle.std.proofs.lemmas.Grind.{common_steps}
use Rattle.std.proofs.Common.{arith}
use Rattle.cip_basis.proofs.fixed.quotient.Goals as goal

pub overflow_cast-b : goal.overflow_cast-b
overflow_cast-b c = grind (arith, common_steps)

pub overflow_cast-a : goal.overflow_cast-a
overflow_cast-a c = grind (arith, common_steps)

pub overflow_shl-a : goal.overflow_shl-a
overflow_shl-a c = grind (arith, common_steps)
