use Rattle.std.proofs.lemmas.Grind.{common_steps}
use Rattle.std.proofs.Common.{arith}
use Rattle.cip_lp.proofs.line_tokens.LineTokens.front_word.Goals as goal

pub returns-else-has_colon : goal.returns-else-has_colon
returns-else-has_colon c = grind (arith, common_steps)

pub returns-then-has_colon : goal.returns-then-has_colon
returns-then-has_colon c = grind (arith, common_steps)

pub returns-then-has_colon-2 : goal.returns-then-has_colon-2
returns-then-has_colon-2 c = grind (arith, common_steps)

pub returns-else-has_colon-2 : goal.returns-else-has_colon-2
returns-else-has_colon-2 c = grind (arith, common_steps)

pub returns-in-Some-Such : goal.returns-in-Some-Such
returns-in-Some-Such c = grind (arith, common_steps)

pub returns-in-Some-Subject : goal.returns-in-Some-Subject
returns-in-Some-Subject c = grind (arith, common_steps)
