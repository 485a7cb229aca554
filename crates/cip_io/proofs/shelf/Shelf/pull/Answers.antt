use Rattle.std.proofs.lemmas.Grind.{common_steps}
use Rattle.std.proofs.Common.{arith}
use Rattle.cip_io.proofs.shelf.Shelf.pull.Goals as goal

pub invariant_of-self : goal.invariant_of-self
invariant_of-self c = grind (arith, common_steps)

pub returns-clause-state : goal.returns-clause-state
returns-clause-state c = grind (arith, common_steps)

pub returns-clause-count : goal.returns-clause-count
returns-clause-count c = grind (arith, common_steps)

pub returns-clause-comes : goal.returns-clause-comes
returns-clause-comes c = grind (arith, common_steps)

pub give-count-requires-clause-piece : goal.give-count-requires-clause-piece
give-count-requires-clause-piece c = grind (arith, common_steps)

pub rest_of-requires : goal.rest_of-requires
rest_of-requires c = grind (arith, common_steps)

pub overflow_add-self : goal.overflow_add-self
overflow_add-self c = grind (arith, common_steps)
