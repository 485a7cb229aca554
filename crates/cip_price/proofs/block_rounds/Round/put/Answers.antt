use Rattle.std.proofs.lemmas.Grind.{common_steps}
use Rattle.std.proofs.Common.{arith}
use Rattle.cip_price.proofs.block_rounds.Round.put.Goals as goal

pub returns-clause-trees : goal.returns-clause-trees
returns-clause-trees c = grind (arith, common_steps)

pub returns-clause-none : goal.returns-clause-none
returns-clause-none c = grind (arith, common_steps)

pub returns-clause-gap : goal.returns-clause-gap
returns-clause-gap c = grind (arith, common_steps)

pub returns-clause-growth : goal.returns-clause-growth
returns-clause-growth c = grind (arith, common_steps)
