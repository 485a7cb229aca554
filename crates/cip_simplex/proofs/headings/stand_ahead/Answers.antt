use Rattle.std.proofs.lemmas.Grind.{common_steps}
use Rattle.std.proofs.Common.{arith}
use Rattle.cip_simplex.proofs.headings.stand_ahead.Goals as goal

pub returns-in-Down : goal.returns-in-Down
returns-in-Down c = grind (arith, common_steps)

pub returns-in-Up : goal.returns-in-Up
returns-in-Up c = grind (arith, common_steps)
