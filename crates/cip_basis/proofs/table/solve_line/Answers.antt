use Rattle.std.proofs.lemmas.Grind.{common_steps}
use Rattle.std.proofs.Common.{arith}
use Rattle.cip_basis.proofs.table.solve_line.Goals as goal

pub bounds-entries-at : goal.bounds-entries-at
bounds-entries-at c = grind (arith, common_steps)

pub offset_bounds-entries-at-in-loop-at : goal.offset_bounds-entries-at-in-loop-at
offset_bounds-entries-at-in-loop-at c = grind (arith, common_steps)

pub loop-at-preserved : goal.loop-at-preserved
loop-at-preserved c = grind (arith, common_steps)

pub slice_copy_out-entry : goal.slice_copy_out-entry
slice_copy_out-entry c = grind (arith, common_steps)

pub offset_bounds-entries-at : goal.offset_bounds-entries-at
offset_bounds-entries-at c = grind (arith, common_steps)
