use Rattle.std.proofs.lemmas.Grind.{common_steps}
use Rattle.std.proofs.Common.{arith}
use Rattle.cip_calls.proofs.scratches.Scratches.new.Goals as goal

pub returns : goal.returns
returns c = grind (arith, common_steps)

pub new-requires-2 : goal.new-requires-2
new-requires-2 c = grind (arith, common_steps)

pub new-requires : goal.new-requires
new-requires c = grind (arith, common_steps)
