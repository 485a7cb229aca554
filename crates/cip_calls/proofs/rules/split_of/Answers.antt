use Rattle.std.proofs.lemmas.Grind.{common_steps}
use Rattle.std.proofs.Common.{arith}
use Rattle.cip_calls.proofs.rules.split_of.Goals as goal

pub returns-in-Some-Split : goal.returns-in-Some-Split
returns-in-Some-Split c = grind (arith, common_steps)

pub returns-in-Some-Enforced : goal.returns-in-Some-Enforced
returns-in-Some-Enforced c = grind (arith, common_steps)

pub returns-in-Some-Priced : goal.returns-in-Some-Priced
returns-in-Some-Priced c = grind (arith, common_steps)

pub returns-in-Some-Wishes : goal.returns-in-Some-Wishes
returns-in-Some-Wishes c = grind (arith, common_steps)

pub returns-in-Some-Guesses : goal.returns-in-Some-Guesses
returns-in-Some-Guesses c = grind (arith, common_steps)

pub returns-in-Some-Reductions : goal.returns-in-Some-Reductions
returns-in-Some-Reductions c = grind (arith, common_steps)

pub returns-in-Some-Cuts : goal.returns-in-Some-Cuts
returns-in-Some-Cuts c = grind (arith, common_steps)

pub returns-in-None : goal.returns-in-None
returns-in-None c = grind (arith, common_steps)
