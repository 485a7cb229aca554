use Rattle.std.proofs.lemmas.Grind.{common_steps}
use Rattle.std.proofs.Common.{arith}
use Rattle.cip_basis.proofs.combos.put_line.Goals as goal

pub offset_bounds-term-items-term-index : goal.offset_bounds-term-items-term-index
offset_bounds-term-items-term-index c = grind (arith, common_steps)

pub overflow_cast-number-else-number-columns : goal.overflow_cast-number-else-number-columns
overflow_cast-number-else-number-columns c = grind (arith, common_steps)

pub overflow_cast-number : goal.overflow_cast-number
overflow_cast-number c = grind (arith, common_steps)

pub back_relent_following-out-then-number-columns : goal.back_relent_following-out-then-number-columns
back_relent_following-out-then-number-columns c = grind (arith, common_steps)

pub back_relent_following-out : goal.back_relent_following-out
back_relent_following-out c = grind (arith, common_steps)
