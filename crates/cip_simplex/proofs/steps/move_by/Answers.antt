use Rattle.std.proofs.lemmas.Grind.{common_steps}
use Rattle.std.proofs.Common.{arith}
use Rattle.cip_simplex.proofs.steps.move_by.Goals as goal

pub returns-else-way-j : goal.returns-else-way-j
returns-else-way-j c = grind (arith, common_steps)

pub returns-then-way-j : goal.returns-then-way-j
returns-then-way-j c = grind (arith, common_steps)
