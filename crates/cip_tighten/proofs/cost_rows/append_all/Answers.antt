use Rattle.std.proofs.lemmas.Grind.{common_steps}
use Rattle.std.proofs.Common.{arith}
use Rattle.cip_tighten.proofs.cost_rows.append_all.Goals as goal

pub bounds-sums-place : goal.bounds-sums-place
bounds-sums-place c = grind (arith, common_steps)

pub offset_bounds-sums-place : goal.offset_bounds-sums-place
offset_bounds-sums-place c = grind (arith, common_steps)
