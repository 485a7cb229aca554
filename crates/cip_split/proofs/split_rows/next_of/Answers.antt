use Rattle.std.proofs.lemmas.Grind.{common_steps}
use Rattle.std.proofs.Common.{arith}
use Rattle.cip_split.proofs.split_rows.next_of.Goals as goal

pub returns-else-number-eq170141183460469231731687303715884105727 : goal.returns-else-number-eq170141183460469231731687303715884105727
returns-else-number-eq170141183460469231731687303715884105727 c = grind (arith, common_steps)

pub overflow_add-result : goal.overflow_add-result
overflow_add-result c = grind (arith, common_steps)

pub returns-then-number-eq170141183460469231731687303715884105727 : goal.returns-then-number-eq170141183460469231731687303715884105727
returns-then-number-eq170141183460469231731687303715884105727 c = grind (arith, common_steps)
