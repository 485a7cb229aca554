use Rattle.std.proofs.lemmas.Grind.{common_steps}
use Rattle.std.proofs.Common.{arith}
use Rattle.cip_basis.proofs.anew.make_anew.Goals as goal

pub overflow_step-round : goal.overflow_step-round
overflow_step-round c = grind (arith, common_steps)

pub loop-round-smaller : goal.loop-round-smaller
loop-round-smaller c = grind (arith, common_steps)

pub loop-round-preserved : goal.loop-round-preserved
loop-round-preserved c = grind (arith, common_steps)
