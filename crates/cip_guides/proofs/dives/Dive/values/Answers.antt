use Rattle.std.proofs.lemmas.Grind.{common_steps}
use Rattle.std.proofs.Common.{arith}
use Rattle.cip_guides.proofs.dives.Dive.values.Goals as goal

pub offset_bounds-sides-items-sides-index : goal.offset_bounds-sides-items-sides-index
offset_bounds-sides-items-sides-index c = grind (arith, common_steps)
