use Rattle.std.proofs.lemmas.Grind.{common_steps}
use Rattle.std.proofs.Common.{arith}
use Rattle.cip_basis.proofs.elimination.Elimination.shortest.Goals as goal

pub bounds-is_done-items-at : goal.bounds-is_done-items-at
bounds-is_done-items-at c = grind (arith, common_steps)
