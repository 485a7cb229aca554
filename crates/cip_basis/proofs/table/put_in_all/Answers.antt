use Rattle.std.proofs.lemmas.Grind.{common_steps}
use Rattle.std.proofs.Common.{arith}
use Rattle.cip_basis.proofs.table.put_in_all.Goals as goal

pub offset_bounds-lines-at : goal.offset_bounds-lines-at
offset_bounds-lines-at c = grind (arith, common_steps)

pub bounds-lines-at : goal.bounds-lines-at
bounds-lines-at c = grind (arith, common_steps)
