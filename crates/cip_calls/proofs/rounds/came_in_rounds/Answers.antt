use Rattle.std.proofs.lemmas.Grind.{common_steps}
use Rattle.std.proofs.Common.{arith}
use Rattle.cip_calls.proofs.rounds.came_in_rounds.Goals as goal

pub returns-in-Accepted-first-clause-others : goal.returns-in-Accepted-first-clause-others
returns-in-Accepted-first-clause-others c = grind (arith, common_steps)

pub returns-in-Accepted-clause-others : goal.returns-in-Accepted-clause-others
returns-in-Accepted-clause-others c = grind (arith, common_steps)

pub returns-in-Accepted-first-clause-emptied : goal.returns-in-Accepted-first-clause-emptied
returns-in-Accepted-first-clause-emptied c = grind (arith, common_steps)

pub returns-in-Accepted-clause-emptied : goal.returns-in-Accepted-clause-emptied
returns-in-Accepted-clause-emptied c = grind (arith, common_steps)

pub returns-in-Emptied-clause-emptied : goal.returns-in-Emptied-clause-emptied
returns-in-Emptied-clause-emptied c = grind (arith, common_steps)

pub returns-in_default : goal.returns-in_default
returns-in_default c = grind (arith, common_steps)
