use Rattle.std.proofs.lemmas.Grind.{common_steps}
use Rattle.std.proofs.Common.{arith}
use Rattle.cip_mps.proofs.group_rows.count_at.Goals as goal

pub bounds-counts-place-then-place-counts : goal.bounds-counts-place-then-place-counts
bounds-counts-place-then-place-counts c = grind (arith, common_steps)

pub offset_bounds-counts-place-then-place-counts : goal.offset_bounds-counts-place-then-place-counts
offset_bounds-counts-place-then-place-counts c = grind (arith, common_steps)

pub bounds-counts-place : goal.bounds-counts-place
bounds-counts-place c = grind (arith, common_steps)

pub offset_bounds-counts-place : goal.offset_bounds-counts-place
offset_bounds-counts-place c = grind (arith, common_steps)

pub returns-then-place-counts : goal.returns-then-place-counts
returns-then-place-counts c = grind (arith, common_steps)
