use Rattle.std.proofs.lemmas.Grind.{common_steps}
use Rattle.std.proofs.Common.{arith}
use Rattle.cip_dict.proofs.whole.least.Goals as goal

pub returns-else-first-second-clause-first : goal.returns-else-first-second-clause-first
returns-else-first-second-clause-first c = grind (arith, common_steps)

pub returns-then-first-second-clause-second : goal.returns-then-first-second-clause-second
returns-then-first-second-clause-second c = grind (arith, common_steps)
