use Rattle.std.proofs.lemmas.Grind.{common_steps}
use Rattle.std.proofs.Common.{arith}
use Rattle.cip_handlers.proofs.handling.ClassHandler.cuts.Goals as goal

pub offset_bounds-number-items-number-index : goal.offset_bounds-number-items-number-index
offset_bounds-number-items-number-index c = grind (arith, common_steps)

pub loop-number-preserved : goal.loop-number-preserved
loop-number-preserved c = grind (arith, common_steps)
