use Rattle.std.proofs.lemmas.Grind.{common_steps}
use Rattle.std.proofs.Common.{arith}
use Rattle.cip_lp.proofs.line_tokens.piece_token.Goals as goal

pub returns-in-Word : goal.returns-in-Word
returns-in-Word c = grind (arith, common_steps)

pub returns-in-Relates : goal.returns-in-Relates
returns-in-Relates c = grind (arith, common_steps)

pub returns-in-Number : goal.returns-in-Number
returns-in-Number c = grind (arith, common_steps)

pub returns-in-Sign : goal.returns-in-Sign
returns-in-Sign c = grind (arith, common_steps)

pub returns-in-Nothing : goal.returns-in-Nothing
returns-in-Nothing c = grind (arith, common_steps)

pub returns-in-Colon : goal.returns-in-Colon
returns-in-Colon c = grind (arith, common_steps)
