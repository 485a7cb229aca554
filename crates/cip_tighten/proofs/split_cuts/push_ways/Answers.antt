use Rattle.std.proofs.lemmas.Grind.{common_steps}
use Rattle.std.proofs.Common.{arith}
use Rattle.cip_tighten.proofs.split_cuts.push_ways.Goals as goal

pub offset_bounds-items-shift-index : goal.offset_bounds-items-shift-index
offset_bounds-items-shift-index c = grind (arith, common_steps)

pub loop-shift-preserved : goal.loop-shift-preserved
loop-shift-preserved c = grind (arith, common_steps)
