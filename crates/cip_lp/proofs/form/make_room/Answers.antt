use Rattle.std.proofs.lemmas.Grind.{common_steps}
use Rattle.std.proofs.Common.{arith}
use Rattle.cip_lp.proofs.form.make_room.Goals as goal

pub returns-clause-room : goal.returns-clause-room
returns-clause-room c = grind (arith, common_steps)

pub returns-clause-term_room : goal.returns-clause-term_room
returns-clause-term_room c = grind (arith, common_steps)

pub returns-then-count-len-clause-term_room : goal.returns-then-count-len-clause-term_room
returns-then-count-len-clause-term_room c = grind (arith, common_steps)

pub returns-then-count-len-clause-room : goal.returns-then-count-len-clause-room
returns-then-count-len-clause-room c = grind (arith, common_steps)

pub returns-clause-terms : goal.returns-clause-terms
returns-clause-terms c = grind (arith, common_steps)

pub returns-clause-len : goal.returns-clause-len
returns-clause-len c = grind (arith, common_steps)

pub returns-then-count-len-clause-terms : goal.returns-then-count-len-clause-terms
returns-then-count-len-clause-terms c = grind (arith, common_steps)

pub returns-then-count-len-clause-len : goal.returns-then-count-len-clause-len
returns-then-count-len-clause-len c = grind (arith, common_steps)

pub overflow_add-count : goal.overflow_add-count
overflow_add-count c = grind (arith, common_steps)

pub returns-then-count-len-clause-kept : goal.returns-then-count-len-clause-kept
returns-then-count-len-clause-kept c = grind (arith, common_steps)
