use Rattle.std.proofs.lemmas.Grind.{common_steps}
use Rattle.std.proofs.Common.{arith}
use Rattle.cip_mps.proofs.groups.any_far.Goals as goal

pub loop-other-preserved : goal.loop-other-preserved
loop-other-preserved c = grind (arith, common_steps)

pub returns : goal.returns
returns c = grind (arith, common_steps)

pub returns-then-other-row : goal.returns-then-other-row
returns-then-other-row c = grind (arith, common_steps)

pub offset_bounds-far-other-index : goal.offset_bounds-far-other-index
offset_bounds-far-other-index c = grind (arith, common_steps)
