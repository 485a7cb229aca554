use Rattle.std.proofs.lemmas.Grind.{common_steps}
use Rattle.std.proofs.Common.{arith}
use Rattle.cip_tighten.proofs.covers.list_picks.Goals as goal

pub bounds-items-place : goal.bounds-items-place
bounds-items-place c = grind (arith, common_steps)

pub offset_bounds-items-place : goal.offset_bounds-items-place
offset_bounds-items-place c = grind (arith, common_steps)
