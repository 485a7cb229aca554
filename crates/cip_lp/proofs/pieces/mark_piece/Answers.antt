use Rattle.std.proofs.lemmas.Grind.{common_steps}
use Rattle.std.proofs.Common.{arith}
use Rattle.cip_lp.proofs.pieces.mark_piece.Goals as goal

pub returns-in-61-2 : goal.returns-in-61-2
returns-in-61-2 c = grind (arith, common_steps)

pub returns-in-61-3 : goal.returns-in-61-3
returns-in-61-3 c = grind (arith, common_steps)

pub returns-in_default : goal.returns-in_default
returns-in_default c = grind (arith, common_steps)

pub returns-in-61 : goal.returns-in-61
returns-in-61 c = grind (arith, common_steps)

pub returns-in-62 : goal.returns-in-62
returns-in-62 c = grind (arith, common_steps)

pub returns-in-60 : goal.returns-in-60
returns-in-60 c = grind (arith, common_steps)

pub returns-in-58 : goal.returns-in-58
returns-in-58 c = grind (arith, common_steps)

pub returns-in-45 : goal.returns-in-45
returns-in-45 c = grind (arith, common_steps)

pub returns-in-43 : goal.returns-in-43
returns-in-43 c = grind (arith, common_steps)
