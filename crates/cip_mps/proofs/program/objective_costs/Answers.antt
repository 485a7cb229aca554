use Rattle.std.proofs.lemmas.Grind.{common_steps}
use Rattle.std.proofs.Common.{arith}
use Rattle.cip_mps.proofs.program.objective_costs.Goals as goal

pub returns-in-None : goal.returns-in-None
returns-in-None c = grind (arith, common_steps)

pub returns-in_ok-held-in-Some : goal.returns-in_ok-held-in-Some
returns-in_ok-held-in-Some c = grind (arith, common_steps)

pub costs_of-requires-in-Some-clause-rising : goal.costs_of-requires-in-Some-clause-rising
costs_of-requires-in-Some-clause-rising c = grind (arith, common_steps)

pub numbers-requires : goal.numbers-requires
numbers-requires c = grind (arith, common_steps)
