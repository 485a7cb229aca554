use Rattle.std.proofs.lemmas.Grind.{common_steps}
use Rattle.std.proofs.Common.{arith}
use Rattle.cip_model.proofs.name_hints.start_of.Goals as goal

pub bounds-ends-number : goal.bounds-ends-number
bounds-ends-number c = grind (arith, common_steps)

pub offset_bounds-ends-number : goal.offset_bounds-ends-number
offset_bounds-ends-number c = grind (arith, common_steps)

pub returns-then-number-eq0 : goal.returns-then-number-eq0
returns-then-number-eq0 c = grind (arith, common_steps)

pub overflow_sub-result : goal.overflow_sub-result
overflow_sub-result c = grind (arith, common_steps)
