use Rattle.std.proofs.lemmas.Grind.{common_steps}
use Rattle.std.proofs.Common.{arith}
use Rattle.cip_basis.proofs.fixed.step.Goals as goal

pub overflow_mul-a : goal.overflow_mul-a
overflow_mul-a c = grind (arith, common_steps)

pub overflow_cast-b : goal.overflow_cast-b
overflow_cast-b c = grind (arith, common_steps)

pub overflow_cast-a : goal.overflow_cast-a
overflow_cast-a c = grind (arith, common_steps)

pub overflow_shr-a : goal.overflow_shr-a
overflow_shr-a c = grind (arith, common_steps)
