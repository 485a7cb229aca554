use Rattle.std.proofs.lemmas.Grind.{common_steps}
use Rattle.std.proofs.Common.{arith}
use Rattle.cip_tree.proofs.origins.Origin.change.Goals as goal

pub returns-in-On : goal.returns-in-On
returns-in-On c = grind (arith, common_steps)

pub returns-in-Off : goal.returns-in-Off
returns-in-Off c = grind (arith, common_steps)

pub returns-in-AtLeast : goal.returns-in-AtLeast
returns-in-AtLeast c = grind (arith, common_steps)

pub returns-in-AtMost : goal.returns-in-AtMost
returns-in-AtMost c = grind (arith, common_steps)

pub high_change-requires : goal.high_change-requires
high_change-requires c = grind (arith, common_steps)

pub low_change-requires : goal.low_change-requires
low_change-requires c = grind (arith, common_steps)
