use Rattle.std.proofs.lemmas.Grind.{common_steps}
use Rattle.std.proofs.Common.{arith}
use Rattle.cip_frac.proofs.bounded.is_short.Goals as goal

pub returns-then-a-ge-SHORT_LEAST : goal.returns-then-a-ge-SHORT_LEAST
returns-then-a-ge-SHORT_LEAST c = grind (arith, common_steps)

pub returns-else-a-ge-SHORT_LEAST : goal.returns-else-a-ge-SHORT_LEAST
returns-else-a-ge-SHORT_LEAST c = grind (arith, common_steps)
