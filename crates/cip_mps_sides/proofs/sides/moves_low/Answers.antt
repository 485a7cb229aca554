use Rattle.std.proofs.lemmas.Grind.{common_steps}
use Rattle.std.proofs.Common.{arith}
use Rattle.cip_mps_sides.proofs.sides.moves_low.Goals as goal

pub returns-in-EqualTo : goal.returns-in-EqualTo
returns-in-EqualTo c = grind (arith, common_steps)

pub returns-in-Free : goal.returns-in-Free
returns-in-Free c = grind (arith, common_steps)

pub returns-in-AtMost : goal.returns-in-AtMost
returns-in-AtMost c = grind (arith, common_steps)
