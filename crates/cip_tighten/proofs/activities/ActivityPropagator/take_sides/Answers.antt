use Rattle.std.proofs.lemmas.Grind.{common_steps}
use Rattle.std.proofs.Common.{arith}
use Rattle.cip_tighten.proofs.activities.ActivityPropagator.take_sides.Goals as goal

pub offset_bounds-item-items-item-index : goal.offset_bounds-item-items-item-index
offset_bounds-item-items-item-index c = grind (arith, common_steps)

pub loop-item-preserved : goal.loop-item-preserved
loop-item-preserved c = grind (arith, common_steps)

pub part_some-self : goal.part_some-self
part_some-self c = grind (arith, common_steps)

pub part_none-self : goal.part_none-self
part_none-self c = grind (arith, common_steps)
