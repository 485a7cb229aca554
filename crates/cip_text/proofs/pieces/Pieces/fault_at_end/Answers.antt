use Rattle.std.proofs.lemmas.Grind.{common_steps}
use Rattle.std.proofs.Common.{arith}
use Rattle.cip_text.proofs.pieces.Pieces.fault_at_end.Goals as goal

pub overflow_add-last-then-self-le-LONGEST_TEXT : goal.overflow_add-last-then-self-le-LONGEST_TEXT
overflow_add-last-then-self-le-LONGEST_TEXT c = grind (arith, common_steps)

pub returns-then-self-le-LONGEST_TEXT : goal.returns-then-self-le-LONGEST_TEXT
returns-then-self-le-LONGEST_TEXT c = grind (arith, common_steps)

pub returns-else-self-le-LONGEST_TEXT : goal.returns-else-self-le-LONGEST_TEXT
returns-else-self-le-LONGEST_TEXT c = grind (arith, common_steps)

pub overflow_add-last : goal.overflow_add-last
overflow_add-last c = grind (arith, common_steps)

pub overflow_add-self : goal.overflow_add-self
overflow_add-self c = grind (arith, common_steps)
