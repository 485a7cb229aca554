use Rattle.std.proofs.lemmas.Grind.{common_steps}
use Rattle.std.proofs.Common.{arith}
use Rattle.cip_rows.proofs.pools.RowPool.is_full.Goals as goal

pub returns-else-len-eq-MOST_POOL_ROWS : goal.returns-else-len-eq-MOST_POOL_ROWS
returns-else-len-eq-MOST_POOL_ROWS c = grind (arith, common_steps)

pub returns-then-len-eq-MOST_POOL_ROWS : goal.returns-then-len-eq-MOST_POOL_ROWS
returns-then-len-eq-MOST_POOL_ROWS c = grind (arith, common_steps)
