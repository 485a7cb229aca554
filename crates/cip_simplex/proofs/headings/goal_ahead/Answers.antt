use Rattle.std.proofs.lemmas.Grind.{common_steps}
use Rattle.std.proofs.Common.{arith}
use Rattle.cip_simplex.proofs.headings.goal_ahead.Goals as goal

pub returns-in-Up-default-Some : goal.returns-in-Up-default-Some
returns-in-Up-default-Some c = grind (arith, common_steps)

pub returns-in-Down-Some-default : goal.returns-in-Down-Some-default
returns-in-Down-Some-default c = grind (arith, common_steps)

pub returns-in_default : goal.returns-in_default
returns-in_default c = grind (arith, common_steps)

pub returns-in_default-2 : goal.returns-in_default-2
returns-in_default-2 c = grind (arith, common_steps)
