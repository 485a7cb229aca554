use Rattle.std.proofs.lemmas.Grind.{common_steps}
use Rattle.std.proofs.Common.{arith}
use Rattle.cip_calls.proofs.judging.came_of.Goals as goal

pub returns-then-any-clause-open_ : goal.returns-then-any-clause-open_
returns-then-any-clause-open_ c = grind (arith, common_steps)

pub returns-else-any-clause-open_ : goal.returns-else-any-clause-open_
returns-else-any-clause-open_ c = grind (arith, common_steps)

pub returns-then-any-clause-quiet : goal.returns-then-any-clause-quiet
returns-then-any-clause-quiet c = grind (arith, common_steps)

pub returns-else-any-clause-quiet : goal.returns-else-any-clause-quiet
returns-else-any-clause-quiet c = grind (arith, common_steps)
