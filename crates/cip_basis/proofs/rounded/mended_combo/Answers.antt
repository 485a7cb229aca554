use Rattle.std.proofs.lemmas.Grind.{common_steps}
use Rattle.std.proofs.Common.{arith}
use Rattle.cip_basis.proofs.rounded.mended_combo.Goals as goal

pub bounds-multiplier-items-number : goal.bounds-multiplier-items-number
bounds-multiplier-items-number c = grind (arith, common_steps)

pub offset_bounds-multiplier-items-number : goal.offset_bounds-multiplier-items-number
offset_bounds-multiplier-items-number c = grind (arith, common_steps)

pub loop-number-preserved : goal.loop-number-preserved
loop-number-preserved c = grind (arith, common_steps)
