use Rattle.std.proofs.lemmas.Grind.{common_steps}
use Rattle.std.proofs.Common.{arith}
use Rattle.cip_basis.proofs.residues.times.Goals as goal

pub overflow_mul-product : goal.overflow_mul-product
overflow_mul-product c = grind (arith, common_steps)
