use Rattle.std.proofs.lemmas.Grind.{common_steps}
use Rattle.std.proofs.Common.{arith}
use Rattle.cip_input.proofs.refusals.FaultyText.line.Goals as goal

pub returns-in-Point : goal.returns-in-Point
returns-in-Point c = grind (arith, common_steps)

pub returns-in-Blocks : goal.returns-in-Blocks
returns-in-Blocks c = grind (arith, common_steps)

pub returns-in-Model : goal.returns-in-Model
returns-in-Model c = grind (arith, common_steps)
