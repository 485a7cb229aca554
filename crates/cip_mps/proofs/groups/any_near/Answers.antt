use Rattle.std.proofs.lemmas.Grind.{common_steps}
use Rattle.std.proofs.Common.{arith}
use Rattle.cip_mps.proofs.groups.any_near.Goals as goal

pub loop-number-preserved : goal.loop-number-preserved
loop-number-preserved c = grind (arith, common_steps)

pub returns : goal.returns
returns c = grind (arith, common_steps)

pub returns-then-number-row : goal.returns-then-number-row
returns-then-number-row c = grind (arith, common_steps)

pub offset_bounds-near-number-index : goal.offset_bounds-near-number-index
offset_bounds-near-number-index c = grind (arith, common_steps)
