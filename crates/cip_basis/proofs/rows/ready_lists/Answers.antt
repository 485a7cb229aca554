use Rattle.std.proofs.lemmas.Grind.{common_steps}
use Rattle.std.proofs.Common.{arith}
use Rattle.cip_basis.proofs.rows.ready_lists.Goals as goal

pub offset_bounds-list-items-list-index : goal.offset_bounds-list-items-list-index
offset_bounds-list-items-list-index g c = grind (arith, common_steps)

pub loop-preserved : goal.loop-preserved
loop-preserved g c = grind (arith, common_steps)
