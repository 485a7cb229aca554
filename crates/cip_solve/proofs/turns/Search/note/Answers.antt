use Rattle.std.proofs.lemmas.Grind.{common_steps}
use Rattle.std.proofs.Common.{arith}
use Rattle.cip_solve.proofs.turns.Search.note.Goals as goal

pub returns-in-Some-clause-marked : goal.returns-in-Some-clause-marked
returns-in-Some-clause-marked c = grind (arith, common_steps)

pub returns-in_default-clause-marked : goal.returns-in_default-clause-marked
returns-in_default-clause-marked c = grind (arith, common_steps)

pub returns-in-Some-clause-work : goal.returns-in-Some-clause-work
returns-in-Some-clause-work c = grind (arith, common_steps)

pub returns-in-Some-clause-worst : goal.returns-in-Some-clause-worst
returns-in-Some-clause-worst c = grind (arith, common_steps)
