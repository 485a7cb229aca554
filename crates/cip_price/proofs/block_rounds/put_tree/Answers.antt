use Rattle.std.proofs.lemmas.Grind.{common_steps}
use Rattle.std.proofs.Common.{arith}
use Rattle.cip_price.proofs.block_rounds.put_tree.Goals as goal

pub returns : goal.returns
returns c = grind (arith, common_steps)

pub returns-in_default-accepted : goal.returns-in_default-accepted
returns-in_default-accepted c = grind (arith, common_steps)

pub returns-in_default : goal.returns-in_default
returns-in_default c = grind (arith, common_steps)
