use Rattle.std.proofs.lemmas.Grind.{common_steps}
use Rattle.std.proofs.Common.{arith}
use Rattle.cip_presolve.proofs.places.place_behind.Goals as goal

pub returns-else-takes-clause-place : goal.returns-else-takes-clause-place
returns-else-takes-clause-place c = grind (arith, common_steps)

pub overflow_add-result : goal.overflow_add-result
overflow_add-result c = grind (arith, common_steps)

pub returns-else-takes-clause-within : goal.returns-else-takes-clause-within
returns-else-takes-clause-within c = grind (arith, common_steps)
