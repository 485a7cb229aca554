use Rattle.std.proofs.lemmas.Grind.{common_steps}
use Rattle.std.proofs.Common.{arith}
use Rattle.cip_guides.proofs.splits.split_at.Goals as goal

pub bounds-sides-place : goal.bounds-sides-place
bounds-sides-place c = grind (arith, common_steps)

pub bounds-whole-place : goal.bounds-whole-place
bounds-whole-place c = grind (arith, common_steps)

pub bounds-point-place : goal.bounds-point-place
bounds-point-place c = grind (arith, common_steps)

pub offset_bounds-sides-place : goal.offset_bounds-sides-place
offset_bounds-sides-place c = grind (arith, common_steps)

pub offset_bounds-point-place : goal.offset_bounds-point-place
offset_bounds-point-place c = grind (arith, common_steps)

pub returns-then-not-whole-place : goal.returns-then-not-whole-place
returns-then-not-whole-place c = grind (arith, common_steps)

pub returns-then-place-whole : goal.returns-then-place-whole
returns-then-place-whole c = grind (arith, common_steps)

pub returns-else-is_above : goal.returns-else-is_above
returns-else-is_above c = grind (arith, common_steps)
