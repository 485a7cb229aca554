use Rattle.std.proofs.lemmas.Grind.{common_steps}
use Rattle.std.proofs.Common.{arith}
use Rattle.cip_basis.proofs.residues.inverse.Goals as goal

pub overflow_sub-left : goal.overflow_sub-left
overflow_sub-left c = grind (arith, common_steps)
