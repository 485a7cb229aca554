use Rattle.std.proofs.lemmas.Grind.{common_steps}
use Rattle.std.proofs.Common.{arith}
use Rattle.cip_lp.proofs.line_tokens.LineTokens.second_token.Goals as goal

pub returns-in-Some-Word : goal.returns-in-Some-Word
returns-in-Some-Word c = grind (arith, common_steps)
