use Rattle.std.proofs.lemmas.Grind.{common_steps}
use Rattle.std.proofs.Common.{arith}
use Rattle.cip_basis.proofs.scaling.scale_once.Goals as goal

pub bounds-span-items-column : goal.bounds-span-items-column
bounds-span-items-column c = grind (arith, common_steps)

pub offset_bounds-span-items-column : goal.offset_bounds-span-items-column
offset_bounds-span-items-column c = grind (arith, common_steps)
