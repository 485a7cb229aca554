use Rattle.std.proofs.lemmas.Grind.{common_steps}
use Rattle.std.proofs.Common.{arith}
use Rattle.cip_domain.proofs.stores.sides_before.Goals as goal

pub returns-in-High : goal.returns-in-High
returns-in-High c = grind (arith, common_steps)

pub returns-in-Low : goal.returns-in-Low
returns-in-Low c = grind (arith, common_steps)

pub returns-in_default : goal.returns-in_default
returns-in_default c = grind (arith, common_steps)
