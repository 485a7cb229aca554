use Rattle.std.proofs.lemmas.Grind.{common_steps}
use Rattle.std.proofs.Common.{arith}
use Rattle.cip_basis.proofs.multipliers.list_rounded.Goals as goal

pub bounds-loose-place : goal.bounds-loose-place
bounds-loose-place c = grind (arith, common_steps)

pub offset_bounds-loose-place : goal.offset_bounds-loose-place
offset_bounds-loose-place c = grind (arith, common_steps)
