use Rattle.std.proofs.lemmas.Grind.{common_steps}
use Rattle.std.proofs.Common.{arith}
use Rattle.cip_tighten.proofs.reductions.add_side.Goals as goal

pub offset_bounds-item-items-item-index : goal.offset_bounds-item-items-item-index
offset_bounds-item-items-item-index c = grind (arith, common_steps)

pub bounds-item-items-item-index : goal.bounds-item-items-item-index
bounds-item-items-item-index c = grind (arith, common_steps)

pub loop-item-preserved : goal.loop-item-preserved
loop-item-preserved c = grind (arith, common_steps)

pub shared_whole_as_slice-push_reduction : goal.shared_whole_as_slice-push_reduction
shared_whole_as_slice-push_reduction c = grind (arith, common_steps)
