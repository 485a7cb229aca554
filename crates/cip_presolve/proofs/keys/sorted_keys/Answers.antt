use Rattle.std.proofs.lemmas.Grind.{common_steps}
use Rattle.std.proofs.Common.{arith}
use Rattle.cip_presolve.proofs.keys.sorted_keys.Goals as goal

pub overflow_cast-number : goal.overflow_cast-number
overflow_cast-number c = grind (arith, common_steps)

pub bounds-rows-number-in-loop-number : goal.bounds-rows-number-in-loop-number
bounds-rows-number-in-loop-number c = grind (arith, common_steps)

pub offset_bounds-rows-number-in-loop-number : goal.offset_bounds-rows-number-in-loop-number
offset_bounds-rows-number-in-loop-number c = grind (arith, common_steps)

pub bounds-rows-number : goal.bounds-rows-number
bounds-rows-number c = grind (arith, common_steps)

pub offset_bounds-rows-number : goal.offset_bounds-rows-number
offset_bounds-rows-number c = grind (arith, common_steps)
