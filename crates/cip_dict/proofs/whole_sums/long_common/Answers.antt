use Rattle.std.proofs.lemmas.Grind.{common_steps}
use Rattle.std.proofs.Common.{arith}
use Rattle.cip_dict.proofs.whole_sums.long_common.Goals as goal

pub nonzero_rem-rest : goal.nonzero_rem-rest
nonzero_rem-rest c = grind (arith, common_steps)

pub returns : goal.returns
returns c = grind (arith, common_steps)

pub loop-y-preserved : goal.loop-y-preserved
loop-y-preserved c = grind (arith, common_steps)

pub loop-y-init : goal.loop-y-init
loop-y-init c = grind (arith, common_steps)

pub loop-y-smaller : goal.loop-y-smaller
loop-y-smaller c = grind (arith, common_steps)
