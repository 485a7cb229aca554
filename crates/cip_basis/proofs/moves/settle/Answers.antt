use Rattle.std.proofs.lemmas.Grind.{common_steps}
use Rattle.std.proofs.Common.{arith}
use Rattle.cip_basis.proofs.moves.settle.Goals as goal

pub offset_bounds-line-items-line-index : goal.offset_bounds-line-items-line-index
offset_bounds-line-items-line-index c = grind (arith, common_steps)
