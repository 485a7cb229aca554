use Rattle.std.proofs.lemmas.Grind.{common_steps}
use Rattle.std.proofs.Common.{arith}
use Rattle.cip_text.proofs.digits.with_digit.Goals as goal

pub overflow_sub-digit : goal.overflow_sub-digit
overflow_sub-digit c = grind (arith, common_steps)

pub returns-then-next-gt-LARGEST : goal.returns-then-next-gt-LARGEST
returns-then-next-gt-LARGEST c = grind (arith, common_steps)

pub returns-else-next-gt-LARGEST : goal.returns-else-next-gt-LARGEST
returns-else-next-gt-LARGEST c = grind (arith, common_steps)

pub overflow_add-next : goal.overflow_add-next
overflow_add-next c = grind (arith, common_steps)

pub overflow_mul-next : goal.overflow_mul-next
overflow_mul-next c = grind (arith, common_steps)

pub returns-then-value : goal.returns-then-value
returns-then-value c = grind (arith, common_steps)
