use Rattle.std.proofs.lemmas.Grind.{common_steps}
use Rattle.std.proofs.Common.{arith}
use Rattle.cip_leaf.proofs.leaves.answer_on.Goals as goal

pub returns-in-Some : goal.returns-in-Some
returns-in-Some c = grind (arith, common_steps)

pub returns-in-None : goal.returns-in-None
returns-in-None c = grind (arith, common_steps)

pub answer_by_moves-answer-requires-clause-leaf : goal.answer_by_moves-answer-requires-clause-leaf
answer_by_moves-answer-requires-clause-leaf c = grind (arith, common_steps)

pub answer_by_moves-answer-requires-clause-formed : goal.answer_by_moves-answer-requires-clause-formed
answer_by_moves-answer-requires-clause-formed c = grind (arith, common_steps)

pub answer_by_moves-answer-requires-clause-parts : goal.answer_by_moves-answer-requires-clause-parts
answer_by_moves-answer-requires-clause-parts c = grind (arith, common_steps)

pub shown_by_basis-requires-clause-leaf : goal.shown_by_basis-requires-clause-leaf
shown_by_basis-requires-clause-leaf c = grind (arith, common_steps)

pub shown_by_basis-requires-clause-formed : goal.shown_by_basis-requires-clause-formed
shown_by_basis-requires-clause-formed c = grind (arith, common_steps)

pub shown_by_basis-requires-clause-parts : goal.shown_by_basis-requires-clause-parts
shown_by_basis-requires-clause-parts c = grind (arith, common_steps)
