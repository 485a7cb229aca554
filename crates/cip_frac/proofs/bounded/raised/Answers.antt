use Rattle.std.proofs.lemmas.Grind.{common_steps}
use Rattle.std.proofs.Common.{arith}
use Rattle.cip_frac.proofs.bounded.raised.Goals as goal

pub returns : goal.returns
returns c = grind (arith, common_steps)

pub overflow_cast-k : goal.overflow_cast-k
overflow_cast-k c = grind (arith, common_steps)
