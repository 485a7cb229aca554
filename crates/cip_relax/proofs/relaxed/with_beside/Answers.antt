use Rattle.std.proofs.lemmas.Grind.{common_steps}
use Rattle.std.proofs.Common.{arith}
use Rattle.cip_relax.proofs.relaxed.with_beside.Goals as goal

pub returns-in-Unsolved : goal.returns-in-Unsolved
returns-in-Unsolved c = grind (arith, common_steps)

pub returns-in-Unsolved-default-None-default : goal.returns-in-Unsolved-default-None-default
returns-in-Unsolved-default-None-default c = grind (arith, common_steps)

pub returns-in_default : goal.returns-in_default
returns-in_default c = grind (arith, common_steps)
