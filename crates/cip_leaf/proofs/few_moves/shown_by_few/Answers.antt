use Rattle.std.proofs.lemmas.Grind.{common_steps}
use Rattle.std.proofs.Common.{arith}
use Rattle.cip_leaf.proofs.few_moves.shown_by_few.Goals as goal

pub shown_by-requires-clause-found : goal.shown_by-requires-clause-found
shown_by-requires-clause-found c = grind (arith, common_steps)

pub shown_by-requires-clause-leaf : goal.shown_by-requires-clause-leaf
shown_by-requires-clause-leaf c = grind (arith, common_steps)

pub shown_by-requires-clause-formed : goal.shown_by-requires-clause-formed
shown_by-requires-clause-formed c = grind (arith, common_steps)

pub returns : goal.returns
returns c = grind (arith, common_steps)

pub returns-in_default : goal.returns-in_default
returns-in_default c = grind (arith, common_steps)
