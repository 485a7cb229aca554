use Rattle.std.proofs.lemmas.Grind.{common_steps}
use Rattle.std.proofs.Common.{arith}
use Rattle.cip_lp.proofs.pieces.without_comment.Goals as goal

pub bounds-bytes-0 : goal.bounds-bytes-0
bounds-bytes-0 c = grind (arith, common_steps)

pub returns-in-len1-up-clause-same : goal.returns-in-len1-up-clause-same
returns-in-len1-up-clause-same c = grind (arith, common_steps)

pub returns-in_default-2-clause-starts : goal.returns-in_default-2-clause-starts
returns-in_default-2-clause-starts c = grind (arith, common_steps)

pub returns-in_default-clause-starts : goal.returns-in_default-clause-starts
returns-in_default-clause-starts c = grind (arith, common_steps)
