use Rattle.std.proofs.lemmas.Grind.{common_steps}
use Rattle.std.proofs.Common.{arith}
use Rattle.cip_tighten.proofs.roundings.write_cut.Goals as goal

pub offset_bounds-shift-items-shift-index : goal.offset_bounds-shift-items-shift-index
offset_bounds-shift-items-shift-index c = grind (arith, common_steps)
