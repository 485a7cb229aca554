use Rattle.std.proofs.lemmas.Grind.{common_steps}
use Rattle.std.proofs.Common.{arith}
use Rattle.cip_simplex.proofs.lp.Lp.len.Goals as goal

pub returns : goal.returns
returns c = grind (arith, common_steps)

pub overflow_add-result-2 : goal.overflow_add-result-2
overflow_add-result-2 c = grind (arith, common_steps)

pub overflow_add-result : goal.overflow_add-result
overflow_add-result c = grind (arith, common_steps)
