use Rattle.std.proofs.lemmas.Grind.{common_steps}
use Rattle.std.proofs.Common.{arith}
use Rattle.cip_tighten.proofs.split_cuts.push_all.Goals as goal

pub offset_bounds-used-items-used-index : goal.offset_bounds-used-items-used-index
offset_bounds-used-items-used-index c = grind (arith, common_steps)

pub loop-used-preserved : goal.loop-used-preserved
loop-used-preserved c = grind (arith, common_steps)
