use Rattle.std.proofs.lemmas.Grind.{common_steps}
use Rattle.std.proofs.Common.{arith}
use Rattle.cip_price.proofs.bounding.summed_fault.Goals as goal

pub returns-in-Tree : goal.returns-in-Tree
returns-in-Tree c = grind (arith, common_steps)

pub returns-in-NoRest : goal.returns-in-NoRest
returns-in-NoRest c = grind (arith, common_steps)

pub returns-in-NoSide : goal.returns-in-NoSide
returns-in-NoSide c = grind (arith, common_steps)

pub returns-in-Wide : goal.returns-in-Wide
returns-in-Wide c = grind (arith, common_steps)
