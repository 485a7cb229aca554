use Rattle.std.proofs.lemmas.Grind.{common_steps}
use Rattle.std.proofs.Common.{arith}
use Rattle.cip_tighten.proofs.cost_rows.CostRow.take.Goals as goal

pub offset_bounds-multiple-items-multiple-index : goal.offset_bounds-multiple-items-multiple-index
offset_bounds-multiple-items-multiple-index c = grind (arith, common_steps)

pub loop-multiple-preserved : goal.loop-multiple-preserved
loop-multiple-preserved c = grind (arith, common_steps)

pub loop-multiple-init : goal.loop-multiple-init
loop-multiple-init c = grind (arith, common_steps)
