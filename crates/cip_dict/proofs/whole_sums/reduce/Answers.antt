use Rattle.std.proofs.lemmas.Grind.{common_steps}
use Rattle.std.proofs.Common.{arith}
use Rattle.cip_dict.proofs.whole_sums.reduce.Goals as goal

pub returns-then-branch : goal.returns-then-branch
returns-then-branch c = grind (arith, common_steps)

pub overflow_cast-result : goal.overflow_cast-result
overflow_cast-result c = grind (arith, common_steps)

pub divide_all-requires-clause-positive : goal.divide_all-requires-clause-positive
divide_all-requires-clause-positive c = grind (arith, common_steps)

pub part_of-requires : goal.part_of-requires
part_of-requires c = grind (arith, common_steps)

pub divide_all-requires-clause-wide : goal.divide_all-requires-clause-wide
divide_all-requires-clause-wide c = grind (arith, common_steps)

pub common_of-g-requires : goal.common_of-g-requires
common_of-g-requires c = grind (arith, common_steps)

pub returns-else-branch : goal.returns-else-branch
returns-else-branch c = grind (arith, common_steps)
