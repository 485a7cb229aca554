use Rattle.std.proofs.lemmas.Grind.{common_steps}
use Rattle.std.proofs.Common.{arith}
use Rattle.cip_dict.proofs.exchange.value_at_stand.Goals as goal

pub returns-in-High : goal.returns-in-High
returns-in-High c = grind (arith, common_steps)

pub returns-in-Low : goal.returns-in-Low
returns-in-Low c = grind (arith, common_steps)

pub returns-in-Zero : goal.returns-in-Zero
returns-in-Zero c = grind (arith, common_steps)
