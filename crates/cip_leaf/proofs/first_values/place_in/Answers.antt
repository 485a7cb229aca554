use Rattle.std.proofs.lemmas.Grind.{common_steps}
use Rattle.std.proofs.Common.{arith}
use Rattle.cip_leaf.proofs.first_values.place_in.Goals as goal

pub overflow_sub-result : goal.overflow_sub-result
overflow_sub-result c = grind (arith, common_steps)

pub returns-in-Row : goal.returns-in-Row
returns-in-Row c = grind (arith, common_steps)

pub returns-in-Cost : goal.returns-in-Cost
returns-in-Cost c = grind (arith, common_steps)
