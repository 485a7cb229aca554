use Rattle.std.proofs.lemmas.Grind.{common_steps}
use Rattle.std.proofs.Common.{arith}
use Rattle.cip_price.proofs.block_rounds.Round.new.Goals as goal

pub returns-clause-trees : goal.returns-clause-trees
returns-clause-trees c = grind (arith, common_steps)
