use Rattle.std.proofs.lemmas.Grind.{common_steps}
use Rattle.std.proofs.Common.{arith}
use Rattle.cip_solve.proofs.reducing.are_near.Goals as goal

pub returns-in-Some-high : goal.returns-in-Some-high
returns-in-Some-high c = grind (arith, common_steps)

pub returns-then-unsigned_abs : goal.returns-then-unsigned_abs
returns-then-unsigned_abs c = grind (arith, common_steps)

pub returns-in-None : goal.returns-in-None
returns-in-None c = grind (arith, common_steps)
