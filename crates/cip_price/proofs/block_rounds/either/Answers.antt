use Rattle.std.proofs.lemmas.Grind.{common_steps}
use Rattle.std.proofs.Common.{arith}
use Rattle.cip_price.proofs.block_rounds.either.Goals as goal

pub returns-else-first : goal.returns-else-first
returns-else-first c = grind (arith, common_steps)

pub returns-then-first : goal.returns-then-first
returns-then-first c = grind (arith, common_steps)
