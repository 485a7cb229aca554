use Rattle.std.proofs.lemmas.Grind.{common_steps}
use Rattle.std.proofs.Common.{arith}
use Rattle.cip_price.proofs.bounding.summed_bound.Goals as goal

pub returns-in-Finite : goal.returns-in-Finite
returns-in-Finite c = grind (arith, common_steps)

pub returns-in-NoPoint : goal.returns-in-NoPoint
returns-in-NoPoint c = grind (arith, common_steps)
