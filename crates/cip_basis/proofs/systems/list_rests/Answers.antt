use Rattle.std.proofs.lemmas.Grind.{common_steps}
use Rattle.std.proofs.Common.{arith}
use Rattle.cip_basis.proofs.systems.list_rests.Goals as goal

pub offset_bounds-right-number-index : goal.offset_bounds-right-number-index
offset_bounds-right-number-index c = grind (arith, common_steps)
