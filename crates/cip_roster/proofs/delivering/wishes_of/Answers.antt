use Rattle.std.proofs.lemmas.Grind.{common_steps}
use Rattle.std.proofs.Common.{arith}
use Rattle.cip_roster.proofs.delivering.wishes_of.Goals as goal

pub returns-in-Some-Wishes : goal.returns-in-Some-Wishes
returns-in-Some-Wishes c = grind (arith, common_steps)

pub returns-in_default : goal.returns-in_default
returns-in_default c = grind (arith, common_steps)
