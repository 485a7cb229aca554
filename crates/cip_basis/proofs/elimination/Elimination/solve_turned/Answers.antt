use Rattle.std.proofs.lemmas.Grind.{common_steps}
use Rattle.std.proofs.Common.{arith}
use Rattle.cip_basis.proofs.elimination.Elimination.solve_turned.Goals as goal

pub offset_bounds-pivot-items-pivot-index : goal.offset_bounds-pivot-items-pivot-index
offset_bounds-pivot-items-pivot-index c = grind (arith, common_steps)
