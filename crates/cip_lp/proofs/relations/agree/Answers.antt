use Rattle.std.proofs.lemmas.Grind.{common_steps}
use Rattle.std.proofs.Common.{arith}
use Rattle.cip_lp.proofs.relations.agree.Goals as goal

pub returns-in_default-2 : goal.returns-in_default-2
returns-in_default-2 c = grind (arith, common_steps)

pub returns-in_default : goal.returns-in_default
returns-in_default c = grind (arith, common_steps)

pub returns-in-AtLeast-AtLeast : goal.returns-in-AtLeast-AtLeast
returns-in-AtLeast-AtLeast c = grind (arith, common_steps)

pub returns-in-AtMost-AtMost : goal.returns-in-AtMost-AtMost
returns-in-AtMost-AtMost c = grind (arith, common_steps)

pub returns-in_default-3 : goal.returns-in_default-3
returns-in_default-3 c = grind (arith, common_steps)
