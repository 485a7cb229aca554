use Rattle.std.proofs.lemmas.Grind.{common_steps}
use Rattle.std.proofs.Common.{arith}
use Rattle.cip_tighten.proofs.gains.is_long.Goals as goal

pub offset_bounds-point-value-index : goal.offset_bounds-point-value-index
offset_bounds-point-value-index c = grind (arith, common_steps)
