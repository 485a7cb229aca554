use Rattle.std.proofs.lemmas.Grind.{common_steps}
use Rattle.std.proofs.Common.{arith}
use Rattle.cip_basis.proofs.matrix.make_matrix.Goals as goal

pub bounds-number-items-place : goal.bounds-number-items-place
bounds-number-items-place c = grind (arith, common_steps)

pub offset_bounds-number-items-place : goal.offset_bounds-number-items-place
offset_bounds-number-items-place c = grind (arith, common_steps)

pub loop-place-preserved : goal.loop-place-preserved
loop-place-preserved c = grind (arith, common_steps)
