use Rattle.std.proofs.lemmas.Grind.{common_steps}
use Rattle.std.proofs.Common.{arith}
use Rattle.cip_presolve.proofs.queues.row_lists.Goals as goal

pub bounds-rows-number : goal.bounds-rows-number
bounds-rows-number c = grind (arith, common_steps)

pub overflow_cast-number : goal.overflow_cast-number
overflow_cast-number c = grind (arith, common_steps)

pub offset_bounds-rows-number : goal.offset_bounds-rows-number
offset_bounds-rows-number c = grind (arith, common_steps)

pub loop-number-preserved : goal.loop-number-preserved
loop-number-preserved c = grind (arith, common_steps)
