use Rattle.std.proofs.lemmas.Grind.{common_steps}
use Rattle.std.proofs.Common.{arith}
use Rattle.cip_price.proofs.rounds.sum_at_prices.Goals as goal

pub returns-in-Some-clause-sum : goal.returns-in-Some-clause-sum
returns-in-Some-clause-sum c = grind (arith, common_steps)

pub sum_of_round-requires-clause-trees : goal.sum_of_round-requires-clause-trees
sum_of_round-requires-clause-trees c = grind (arith, common_steps)

pub returns-in-None-clause-sum : goal.returns-in-None-clause-sum
returns-in-None-clause-sum c = grind (arith, common_steps)

pub returns-then-not-is_open-clause-sum : goal.returns-then-not-is_open-clause-sum
returns-then-not-is_open-clause-sum c = grind (arith, common_steps)

pub sum_of_round-requires-clause-multipliers : goal.sum_of_round-requires-clause-multipliers
sum_of_round-requires-clause-multipliers c = grind (arith, common_steps)

pub returns-in-Some-clause-fits : goal.returns-in-Some-clause-fits
returns-in-Some-clause-fits c = grind (arith, common_steps)

pub returns-in-Some-clause-holds : goal.returns-in-Some-clause-holds
returns-in-Some-clause-holds c = grind (arith, common_steps)

pub returns-in-None-clause-fits : goal.returns-in-None-clause-fits
returns-in-None-clause-fits c = grind (arith, common_steps)

pub returns-then-not-is_open-clause-fits : goal.returns-then-not-is_open-clause-fits
returns-then-not-is_open-clause-fits c = grind (arith, common_steps)

pub sum_of_round-requires-clause-task : goal.sum_of_round-requires-clause-task
sum_of_round-requires-clause-task c = grind (arith, common_steps)

pub sum_of_round-requires-clause-fits : goal.sum_of_round-requires-clause-fits
sum_of_round-requires-clause-fits c = grind (arith, common_steps)

pub returns-in-None-clause-holds : goal.returns-in-None-clause-holds
returns-in-None-clause-holds c = grind (arith, common_steps)

pub returns-then-not-is_open-clause-holds : goal.returns-then-not-is_open-clause-holds
returns-then-not-is_open-clause-holds c = grind (arith, common_steps)
