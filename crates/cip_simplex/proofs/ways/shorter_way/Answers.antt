use Rattle.std.proofs.lemmas.Grind.{common_steps}
use Rattle.std.proofs.Common.{arith}
use Rattle.cip_simplex.proofs.ways.shorter_way.Goals as goal

pub returns-else-is_below : goal.returns-else-is_below
returns-else-is_below c = grind (arith, common_steps)

pub returns-in-Some-None : goal.returns-in-Some-None
returns-in-Some-None c = grind (arith, common_steps)

pub returns-then-is_below : goal.returns-then-is_below
returns-then-is_below c = grind (arith, common_steps)

pub returns-in-None-default : goal.returns-in-None-default
returns-in-None-default c = grind (arith, common_steps)
