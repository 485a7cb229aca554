use Rattle.std.proofs.lemmas.Grind.{common_steps}
use Rattle.std.proofs.Common.{arith}
use Rattle.cip_presolve.proofs.moves.tell_moved.Goals as goal

pub overflow_cast-column : goal.overflow_cast-column
overflow_cast-column c = grind (arith, common_steps)

pub bounds-plan-column : goal.bounds-plan-column
bounds-plan-column c = grind (arith, common_steps)

pub offset_bounds-plan-column : goal.offset_bounds-plan-column
offset_bounds-plan-column c = grind (arith, common_steps)
