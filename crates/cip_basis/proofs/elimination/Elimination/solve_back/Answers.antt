use Rattle.std.proofs.lemmas.Grind.{common_steps}
use Rattle.std.proofs.Common.{arith}
use Rattle.cip_basis.proofs.elimination.Elimination.solve_back.Goals as goal

pub overflow_sub-count : goal.overflow_sub-count
overflow_sub-count c = grind (arith, common_steps)

pub overflow_sub-count-in-loop-later : goal.overflow_sub-count-in-loop-later
overflow_sub-count-in-loop-later c = grind (arith, common_steps)

pub get-requires : goal.get-requires
get-requires c = grind (arith, common_steps)
