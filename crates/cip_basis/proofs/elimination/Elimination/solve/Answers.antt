use Rattle.std.proofs.lemmas.Grind.{common_steps}
use Rattle.std.proofs.Common.{arith}
use Rattle.cip_basis.proofs.elimination.Elimination.solve.Goals as goal

pub offset_bounds-operation-items-operation-index : goal.offset_bounds-operation-items-operation-index
offset_bounds-operation-items-operation-index c = grind (arith, common_steps)
