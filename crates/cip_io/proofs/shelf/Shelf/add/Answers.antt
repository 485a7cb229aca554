use Rattle.std.proofs.lemmas.Grind.{common_steps}
use Rattle.std.proofs.Common.{arith}
use Rattle.cip_io.proofs.shelf.Shelf.add.Goals as goal

pub invariant_of-self : goal.invariant_of-self
invariant_of-self c = grind (arith, common_steps)

pub invariant_of-self-in-Err : goal.invariant_of-self-in-Err
invariant_of-self-in-Err c = grind (arith, common_steps)

pub returns-in-Err-clause-err : goal.returns-in-Err-clause-err
returns-in-Err-clause-err c = grind (arith, common_steps)

pub overflow_add-self : goal.overflow_add-self
overflow_add-self c = grind (arith, common_steps)

pub returns-in-Err-clause-ok : goal.returns-in-Err-clause-ok
returns-in-Err-clause-ok c = grind (arith, common_steps)

pub returns-in_default-from_str-clause-ok : goal.returns-in_default-from_str-clause-ok
returns-in_default-from_str-clause-ok c = grind (arith, common_steps)

pub returns-in-Ok-insert-clause-err : goal.returns-in-Ok-insert-clause-err
returns-in-Ok-insert-clause-err c = grind (arith, common_steps)

pub returns-in_default-from_str-clause-err : goal.returns-in_default-from_str-clause-err
returns-in_default-from_str-clause-err c = grind (arith, common_steps)

pub returns-in_default-clause-ok : goal.returns-in_default-clause-ok
returns-in_default-clause-ok c = grind (arith, common_steps)

pub returns-in_default-clause-err : goal.returns-in_default-clause-err
returns-in_default-clause-err c = grind (arith, common_steps)

pub same-self-in_default-from_str : goal.same-self-in_default-from_str
same-self-in_default-from_str c = grind (arith, common_steps)

pub same-self : goal.same-self
same-self c = grind (arith, common_steps)
