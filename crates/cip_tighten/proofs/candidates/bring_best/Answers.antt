use Rattle.std.proofs.lemmas.Grind.{common_steps}
use Rattle.std.proofs.Common.{arith}
use Rattle.cip_tighten.proofs.candidates.bring_best.Goals as goal

pub loop-rank-init : goal.loop-rank-init
loop-rank-init c = grind (arith, common_steps)

pub loop-rank-preserved : goal.loop-rank-preserved
loop-rank-preserved c = grind (arith, common_steps)

pub get_mut-requires : goal.get_mut-requires
get_mut-requires c = grind (arith, common_steps)

pub offset_bounds-ranks-rank-index : goal.offset_bounds-ranks-rank-index
offset_bounds-ranks-rank-index c = grind (arith, common_steps)
