use Rattle.std.proofs.lemmas.Grind.{common_steps}
use Rattle.std.proofs.Common.{arith}
use Rattle.cip_simplex.proofs.steps.ending_here.Goals as goal

pub returns-else-has_way : goal.returns-else-has_way
returns-else-has_way c = grind (arith, common_steps)

pub has_way-requires-clause-entering : goal.has_way-requires-clause-entering
has_way-requires-clause-entering c = grind (arith, common_steps)

pub returns-then-has_way : goal.returns-then-has_way
returns-then-has_way c = grind (arith, common_steps)

pub returns-in-Infeasible : goal.returns-in-Infeasible
returns-in-Infeasible c = grind (arith, common_steps)

pub returns-in-Crossed : goal.returns-in-Crossed
returns-in-Crossed c = grind (arith, common_steps)

pub returns-in-Repair : goal.returns-in-Repair
returns-in-Repair c = grind (arith, common_steps)

pub returns-in-Optimum : goal.returns-in-Optimum
returns-in-Optimum c = grind (arith, common_steps)
