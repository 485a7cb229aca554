use Rattle.std.proofs.lemmas.Grind.{common_steps}
use Rattle.std.proofs.Common.{arith}
use Rattle.cip_dict.proofs.lines.signed_below.Goals as goal

pub returns-else-n-gt0-clause-value : goal.returns-else-n-gt0-clause-value
returns-else-n-gt0-clause-value c = grind (arith, common_steps)

pub returns-else-n-gt0-clause-small : goal.returns-else-n-gt0-clause-small
returns-else-n-gt0-clause-small c = grind (arith, common_steps)

pub returns-then-n-gt0-clause-small : goal.returns-then-n-gt0-clause-small
returns-then-n-gt0-clause-small c = grind (arith, common_steps)

pub returns-then-n-gt0-clause-no : goal.returns-then-n-gt0-clause-no
returns-then-n-gt0-clause-no c = grind (arith, common_steps)

pub returns-else-n-gt0-clause-yes : goal.returns-else-n-gt0-clause-yes
returns-else-n-gt0-clause-yes c = grind (arith, common_steps)

pub returns-then-n-gt0-clause-yes : goal.returns-then-n-gt0-clause-yes
returns-then-n-gt0-clause-yes c = grind (arith, common_steps)

pub overflow_sub-result : goal.overflow_sub-result
overflow_sub-result c = grind (arith, common_steps)

pub returns-else-n-gt0-clause-no : goal.returns-else-n-gt0-clause-no
returns-else-n-gt0-clause-no c = grind (arith, common_steps)

pub returns-then-n-gt0-clause-value : goal.returns-then-n-gt0-clause-value
returns-then-n-gt0-clause-value c = grind (arith, common_steps)

pub overflow_cast-signed : goal.overflow_cast-signed
overflow_cast-signed c = grind (arith, common_steps)
