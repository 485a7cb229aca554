use Rattle.std.proofs.lemmas.Grind.{common_steps}
use Rattle.std.proofs.Common.{arith}
use Rattle.cip_presolve.proofs.queues.put.Goals as goal

pub part_some-lists : goal.part_some-lists
part_some-lists c = grind (arith, common_steps)

pub part_none-lists : goal.part_none-lists
part_none-lists c = grind (arith, common_steps)

pub overflow_cast-column : goal.overflow_cast-column
overflow_cast-column c = grind (arith, common_steps)
