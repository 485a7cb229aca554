use Rattle.std.proofs.lemmas.Grind.{common_steps}
use Rattle.std.proofs.Common.{arith}
use Rattle.cip_calls.proofs.plugins.put.Goals as goal

pub returns : goal.returns
returns c = grind (arith, common_steps)

pub returns-then-is_silent : goal.returns-then-is_silent
returns-then-is_silent c = grind (arith, common_steps)
