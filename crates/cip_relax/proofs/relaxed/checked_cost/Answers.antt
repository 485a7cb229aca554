use Rattle.std.proofs.lemmas.Grind.{common_steps}
use Rattle.std.proofs.Common.{arith}
use Rattle.cip_relax.proofs.relaxed.checked_cost.Goals as goal

pub returns-in-Ok-clause-bound : goal.returns-in-Ok-clause-bound
returns-in-Ok-clause-bound c = grind (arith, common_steps)

pub overflow_add-result-in-Err-add : goal.overflow_add-result-in-Err-add
overflow_add-result-in-Err-add c = grind (arith, common_steps)

pub returns-in-Err-add-clause-bound : goal.returns-in-Err-add-clause-bound
returns-in-Err-add-clause-bound c = grind (arith, common_steps)

pub returns-in-Err-clause-bound : goal.returns-in-Err-clause-bound
returns-in-Err-clause-bound c = grind (arith, common_steps)

pub lower_bound-requires-clause-costs : goal.lower_bound-requires-clause-costs
lower_bound-requires-clause-costs c = grind (arith, common_steps)

pub returns-in-Err-add-clause-room : goal.returns-in-Err-add-clause-room
returns-in-Err-add-clause-room c = grind (arith, common_steps)

pub returns-in-Ok-clause-room : goal.returns-in-Ok-clause-room
returns-in-Ok-clause-room c = grind (arith, common_steps)

pub returns-in-Err-clause-room : goal.returns-in-Err-clause-room
returns-in-Err-clause-room c = grind (arith, common_steps)

pub overflow_add-result : goal.overflow_add-result
overflow_add-result c = grind (arith, common_steps)

pub lower_bound-requires-clause-room : goal.lower_bound-requires-clause-room
lower_bound-requires-clause-room c = grind (arith, common_steps)
