use Rattle.std.proofs.lemmas.Grind.{common_steps}
use Rattle.std.proofs.Common.{arith}
use Rattle.cip_roster.proofs.rankings.Rankings.take.Goals as goal

pub returns-in-BranchRule-clause-left : goal.returns-in-BranchRule-clause-left
returns-in-BranchRule-clause-left c = grind (arith, common_steps)

pub returns-in-ConsHandler-clause-left : goal.returns-in-ConsHandler-clause-left
returns-in-ConsHandler-clause-left c = grind (arith, common_steps)

pub returns-in-EventHandler-clause-left : goal.returns-in-EventHandler-clause-left
returns-in-EventHandler-clause-left c = grind (arith, common_steps)

pub returns-in-Heuristic-clause-left : goal.returns-in-Heuristic-clause-left
returns-in-Heuristic-clause-left c = grind (arith, common_steps)

pub returns-in-Pricer-clause-left : goal.returns-in-Pricer-clause-left
returns-in-Pricer-clause-left c = grind (arith, common_steps)

pub returns-in-Propagator-clause-left : goal.returns-in-Propagator-clause-left
returns-in-Propagator-clause-left c = grind (arith, common_steps)

pub returns-in-Separator-clause-left : goal.returns-in-Separator-clause-left
returns-in-Separator-clause-left c = grind (arith, common_steps)

pub returns-in-EventHandler-clause-taken : goal.returns-in-EventHandler-clause-taken
returns-in-EventHandler-clause-taken c = grind (arith, common_steps)

pub returns-in-ConsHandler-clause-taken : goal.returns-in-ConsHandler-clause-taken
returns-in-ConsHandler-clause-taken c = grind (arith, common_steps)

pub returns-in-BranchRule-clause-taken : goal.returns-in-BranchRule-clause-taken
returns-in-BranchRule-clause-taken c = grind (arith, common_steps)

pub returns-in-Heuristic-clause-taken : goal.returns-in-Heuristic-clause-taken
returns-in-Heuristic-clause-taken c = grind (arith, common_steps)

pub returns-in-Pricer-clause-taken : goal.returns-in-Pricer-clause-taken
returns-in-Pricer-clause-taken c = grind (arith, common_steps)

pub returns-in-Propagator-clause-taken : goal.returns-in-Propagator-clause-taken
returns-in-Propagator-clause-taken c = grind (arith, common_steps)

pub returns-in-Separator-clause-taken : goal.returns-in-Separator-clause-taken
returns-in-Separator-clause-taken c = grind (arith, common_steps)
