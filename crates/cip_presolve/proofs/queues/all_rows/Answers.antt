use Rattle.std.proofs.lemmas.Grind.{common_steps}
use Rattle.std.proofs.Common.{arith}
use Rattle.cip_presolve.proofs.queues.all_rows.Goals as goal

pub overflow_cast-rows : goal.overflow_cast-rows
overflow_cast-rows c = grind (arith, common_steps)

pub overflow_sub-rows : goal.overflow_sub-rows
overflow_sub-rows c = grind (arith, common_steps)

pub overflow_sub-rows-in-loop-back : goal.overflow_sub-rows-in-loop-back
overflow_sub-rows-in-loop-back c = grind (arith, common_steps)
