use Rattle.std.proofs.lemmas.Grind.{common_steps}
use Rattle.std.proofs.Common.{arith}
use Rattle.cip_lp.proofs.line_tokens.LineTokens.next_token.Goals as goal

pub returns-in-Some-Word : goal.returns-in-Some-Word
returns-in-Some-Word c = grind (arith, common_steps)

pub returns-in-Some-next_piece : goal.returns-in-Some-next_piece
returns-in-Some-next_piece c = grind (arith, common_steps)

pub returns-in-None-next_piece : goal.returns-in-None-next_piece
returns-in-None-next_piece c = grind (arith, common_steps)

pub returns-in-None : goal.returns-in-None
returns-in-None c = grind (arith, common_steps)
