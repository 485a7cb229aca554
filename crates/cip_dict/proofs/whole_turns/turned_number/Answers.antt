use Rattle.std.proofs.lemmas.Grind.{common_steps}
use Rattle.std.proofs.Common.{arith}
use Rattle.cip_dict.proofs.whole_turns.turned_number.Goals as goal

pub returns-else-positive-clause-value : goal.returns-else-positive-clause-value
returns-else-positive-clause-value c = grind (arith, common_steps)

pub returns-then-positive-clause-small : goal.returns-then-positive-clause-small
returns-then-positive-clause-small c = grind (arith, common_steps)

pub returns-then-positive-clause-value : goal.returns-then-positive-clause-value
returns-then-positive-clause-value c = grind (arith, common_steps)

pub returns-else-positive-clause-small : goal.returns-else-positive-clause-small
returns-else-positive-clause-small c = grind (arith, common_steps)

pub overflow_sub-result : goal.overflow_sub-result
overflow_sub-result c = grind (arith, common_steps)

pub returns-then-k-pivot-clause-value : goal.returns-then-k-pivot-clause-value
returns-then-k-pivot-clause-value c = grind (arith, common_steps)

pub returns-then-is_absent_on-clause-value : goal.returns-then-is_absent_on-clause-value
returns-then-is_absent_on-clause-value c = grind (arith, common_steps)

pub returns-then-k-pivot-clause-small : goal.returns-then-k-pivot-clause-small
returns-then-k-pivot-clause-small c = grind (arith, common_steps)

pub is_absent_on-requires : goal.is_absent_on-requires
is_absent_on-requires c = grind (arith, common_steps)
