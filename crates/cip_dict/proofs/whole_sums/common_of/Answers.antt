use Rattle.std.proofs.lemmas.Grind.{common_steps}
use Rattle.std.proofs.Common.{arith}
use Rattle.cip_dict.proofs.whole_sums.common_of.Goals as goal

pub common_with-g-requires : goal.common_with-g-requires
common_with-g-requires c = grind (arith, common_steps)

pub loop-sum-preserved : goal.loop-sum-preserved
loop-sum-preserved c = grind (arith, common_steps)

pub returns : goal.returns
returns c = grind (arith, common_steps)

pub offset_bounds-sums-sum-index : goal.offset_bounds-sums-sum-index
offset_bounds-sums-sum-index c = grind (arith, common_steps)

pub loop-sum-init : goal.loop-sum-init
loop-sum-init c = grind (arith, common_steps)

pub returns-then-g-eq1 : goal.returns-then-g-eq1
returns-then-g-eq1 c = grind (arith, common_steps)
