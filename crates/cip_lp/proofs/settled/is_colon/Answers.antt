use Rattle.std.proofs.lemmas.Grind.{common_steps}
use Rattle.std.proofs.Common.{arith}
use Rattle.cip_lp.proofs.settled.is_colon.Goals as goal

pub returns-in_default : goal.returns-in_default
returns-in_default c = grind (arith, common_steps)

pub returns-in-Colon : goal.returns-in-Colon
returns-in-Colon c = grind (arith, common_steps)
