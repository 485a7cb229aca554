use Rattle.std.proofs.lemmas.Grind.{common_steps}
use Rattle.std.proofs.Common.{arith}
use Rattle.cip_lp.proofs.line_tokens.plain_token.Goals as goal

pub returns-in-Some : goal.returns-in-Some
returns-in-Some c = grind (arith, common_steps)

pub returns-in-Some-Infinity : goal.returns-in-Some-Infinity
returns-in-Some-Infinity c = grind (arith, common_steps)

pub returns-in-Some-Free : goal.returns-in-Some-Free
returns-in-Some-Free c = grind (arith, common_steps)

pub returns-in-None : goal.returns-in-None
returns-in-None c = grind (arith, common_steps)
