use Rattle.std.proofs.lemmas.Grind.{common_steps}
use Rattle.std.proofs.Common.{arith}
use Rattle.cip_tighten.proofs.column_rows.ColumnRows.take.Goals as goal

pub way_back_following-self-2 : goal.way_back_following-self-2
way_back_following-self-2 c = grind (arith, common_steps)

pub way_back_beside_following-self : goal.way_back_beside_following-self
way_back_beside_following-self c = grind (arith, common_steps)

pub overflow_cast-sum : goal.overflow_cast-sum
overflow_cast-sum c = grind (arith, common_steps)

pub offset_bounds-end-items-end-index : goal.offset_bounds-end-items-end-index
offset_bounds-end-items-end-index c = grind (arith, common_steps)
