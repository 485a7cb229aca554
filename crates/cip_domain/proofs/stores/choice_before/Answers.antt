use Rattle.std.proofs.lemmas.Grind.{common_steps}
use Rattle.std.proofs.Common.{arith}
use Rattle.cip_domain.proofs.stores.choice_before.Goals as goal

pub returns-in-On : goal.returns-in-On
returns-in-On c = grind (arith, common_steps)

pub returns-in-OwnHigh : goal.returns-in-OwnHigh
returns-in-OwnHigh c = grind (arith, common_steps)

pub returns-after-own : goal.returns-after-own
returns-after-own c = grind (arith, common_steps)

pub returns-in_default : goal.returns-in_default
returns-in_default c = grind (arith, common_steps)
