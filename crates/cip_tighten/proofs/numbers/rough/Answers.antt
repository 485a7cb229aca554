use Rattle.std.proofs.lemmas.Grind.{common_steps}
use Rattle.std.proofs.Common.{arith}
use Rattle.cip_tighten.proofs.numbers.rough.Goals as goal

pub overflow_sub-max : goal.overflow_sub-max
overflow_sub-max c = grind (arith, common_steps)

pub overflow_sub-far : goal.overflow_sub-far
overflow_sub-far c = grind (arith, common_steps)
