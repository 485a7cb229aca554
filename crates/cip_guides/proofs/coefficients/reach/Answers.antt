use Rattle.std.proofs.lemmas.Grind.{common_steps}
use Rattle.std.proofs.Common.{arith}
use Rattle.cip_guides.proofs.coefficients.reach.Goals as goal

pub div-requires : goal.div-requires
div-requires c = grind (arith, common_steps)
