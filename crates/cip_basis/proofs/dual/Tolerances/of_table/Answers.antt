use Rattle.std.proofs.lemmas.Grind.{common_steps}
use Rattle.std.proofs.Common.{arith}
use Rattle.cip_basis.proofs.dual.Tolerances.of_table.Goals as goal

pub overflow_shl-result-else-anew-2 : goal.overflow_shl-result-else-anew-2
overflow_shl-result-else-anew-2 c = grind (arith, common_steps)

pub overflow_shl-result-else-anew : goal.overflow_shl-result-else-anew
overflow_shl-result-else-anew c = grind (arith, common_steps)

pub overflow_cast-result-else-anew-2 : goal.overflow_cast-result-else-anew-2
overflow_cast-result-else-anew-2 c = grind (arith, common_steps)

pub overflow_shl-result-then-anew : goal.overflow_shl-result-then-anew
overflow_shl-result-then-anew c = grind (arith, common_steps)

pub overflow_cast-result-else-anew : goal.overflow_cast-result-else-anew
overflow_cast-result-else-anew c = grind (arith, common_steps)

pub overflow_cast-result-then-anew : goal.overflow_cast-result-then-anew
overflow_cast-result-then-anew c = grind (arith, common_steps)

pub overflow_shl-result : goal.overflow_shl-result
overflow_shl-result c = grind (arith, common_steps)

pub overflow_cast-result : goal.overflow_cast-result
overflow_cast-result c = grind (arith, common_steps)

pub overflow_sub-result-then-anew : goal.overflow_sub-result-then-anew
overflow_sub-result-then-anew c = grind (arith, common_steps)

pub overflow_sub-result-else-anew : goal.overflow_sub-result-else-anew
overflow_sub-result-else-anew c = grind (arith, common_steps)

pub overflow_sub-result : goal.overflow_sub-result
overflow_sub-result c = grind (arith, common_steps)

pub overflow_sub-result-else-anew-2 : goal.overflow_sub-result-else-anew-2
overflow_sub-result-else-anew-2 c = grind (arith, common_steps)
