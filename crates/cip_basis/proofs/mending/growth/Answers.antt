use Rattle.std.proofs.lemmas.Grind.{common_steps}
use Rattle.std.proofs.Common.{arith}
use Rattle.cip_basis.proofs.mending.growth.Goals as goal

pub reciprocal-requires : goal.reciprocal-requires
reciprocal-requires c = grind (arith, common_steps)
