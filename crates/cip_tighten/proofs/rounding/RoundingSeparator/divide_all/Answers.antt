use Rattle.std.proofs.lemmas.Grind.{common_steps}
use Rattle.std.proofs.Common.{arith}
use Rattle.cip_tighten.proofs.rounding.RoundingSeparator.divide_all.Goals as goal

pub offset_bounds-by-items-by-index : goal.offset_bounds-by-items-by-index
offset_bounds-by-items-by-index c = grind (arith, common_steps)

pub loop-by-preserved : goal.loop-by-preserved
loop-by-preserved c = grind (arith, common_steps)
