use Rattle.std.proofs.lemmas.Grind.{common_steps}
use Rattle.std.proofs.Common.{arith}
use Rattle.cip_basis.proofs.mending.Mending.mend.Goals as goal

pub overflow_cast-column-in-loop : goal.overflow_cast-column-in-loop
overflow_cast-column-in-loop c = grind (arith, common_steps)

pub overflow_cast-column : goal.overflow_cast-column
overflow_cast-column c = grind (arith, common_steps)

pub loop-preserved : goal.loop-preserved
loop-preserved c = grind (arith, common_steps)

pub loop-preserved-then-not-is_spoiled : goal.loop-preserved-then-not-is_spoiled
loop-preserved-then-not-is_spoiled c = grind (arith, common_steps)
