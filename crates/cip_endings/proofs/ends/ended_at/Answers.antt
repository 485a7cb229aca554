use Rattle.std.proofs.lemmas.Grind.{common_steps}
use Rattle.std.proofs.Common.{arith}
use Rattle.cip_endings.proofs.ends.ended_at.Goals as goal

pub returns-then-reaches_gap-clause-far : goal.returns-then-reaches_gap-clause-far
returns-then-reaches_gap-clause-far c = grind (arith, common_steps)

pub returns-else-reaches_gap-clause-near : goal.returns-else-reaches_gap-clause-near
returns-else-reaches_gap-clause-near c = grind (arith, common_steps)

pub returns-else-reaches_gap-clause-far : goal.returns-else-reaches_gap-clause-far
returns-else-reaches_gap-clause-far c = grind (arith, common_steps)
