use Rattle.std.proofs.lemmas.Grind.{common_steps}
use Rattle.std.proofs.Common.{arith}
use Rattle.cip_text.proofs.pieces.Pieces.join.Goals as goal

pub invariant_of-self : goal.invariant_of-self
invariant_of-self c = grind (arith, common_steps)

pub returns-clause-joined : goal.returns-clause-joined
returns-clause-joined c = grind (arith, common_steps)
