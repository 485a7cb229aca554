use Rattle.std.proofs.lemmas.Grind.{common_steps}
use Rattle.std.proofs.Common.{arith}
use Rattle.cip_simplex.proofs.lp.Lp.row.Goals as goal

pub bounds-self-inside-number-else-number-self : goal.bounds-self-inside-number-else-number-self
bounds-self-inside-number-else-number-self c = grind (arith, common_steps)

pub returns-else-number-self : goal.returns-else-number-self
returns-else-number-self c = grind (arith, common_steps)

pub returns-then-number-self : goal.returns-then-number-self
returns-then-number-self c = grind (arith, common_steps)

pub offset_bounds-self-inside-number-else-number-self : goal.offset_bounds-self-inside-number-else-number-self
offset_bounds-self-inside-number-else-number-self c = grind (arith, common_steps)

pub bounds-self-inside-number : goal.bounds-self-inside-number
bounds-self-inside-number c = grind (arith, common_steps)

pub offset_bounds-self-inside-number : goal.offset_bounds-self-inside-number
offset_bounds-self-inside-number c = grind (arith, common_steps)

pub overflow_sub-result : goal.overflow_sub-result
overflow_sub-result c = grind (arith, common_steps)
