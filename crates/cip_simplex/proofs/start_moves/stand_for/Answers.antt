use Rattle.std.proofs.lemmas.Grind.{common_steps}
use Rattle.std.proofs.Common.{arith}
use Rattle.cip_simplex.proofs.start_moves.stand_for.Goals as goal

pub returns-in_default : goal.returns-in_default
returns-in_default c = grind (arith, common_steps)

pub returns-in-High-default-Some : goal.returns-in-High-default-Some
returns-in-High-default-Some c = grind (arith, common_steps)

pub returns-in-Low-Some-default : goal.returns-in-Low-Some-default
returns-in-Low-Some-default c = grind (arith, common_steps)
