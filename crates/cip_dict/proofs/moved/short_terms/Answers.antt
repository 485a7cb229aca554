use Rattle.std.proofs.lemmas.Grind.{common_steps}
use Rattle.std.proofs.Common.{arith}
use Rattle.cip_dict.proofs.moved.short_terms.Goals as goal

pub overflow_cast-result : goal.overflow_cast-result
overflow_cast-result c = grind (arith, common_steps)

pub overflow_cast-result-then-b : goal.overflow_cast-result-then-b
overflow_cast-result-then-b c = grind (arith, common_steps)

pub returns-then-b : goal.returns-then-b
returns-then-b c = grind (arith, common_steps)

pub returns-else-unsigned_abs : goal.returns-else-unsigned_abs
returns-else-unsigned_abs c = grind (arith, common_steps)
