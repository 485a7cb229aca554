use Rattle.std.proofs.lemmas.Grind.{common_steps}
use Rattle.std.proofs.Common.{arith}
use Rattle.cip_lp.proofs.relations.is_wrong.Goals as goal

pub returns-in-None-AtLeast : goal.returns-in-None-AtLeast
returns-in-None-AtLeast c = grind (arith, common_steps)

pub returns-in-None-AtMost : goal.returns-in-None-AtMost
returns-in-None-AtMost c = grind (arith, common_steps)

pub returns-in-None-EqualTo : goal.returns-in-None-EqualTo
returns-in-None-EqualTo c = grind (arith, common_steps)

pub returns-in-Some-default : goal.returns-in-Some-default
returns-in-Some-default c = grind (arith, common_steps)
