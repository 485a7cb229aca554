use Rattle.std.proofs.lemmas.Grind.{common_steps}
use Rattle.std.proofs.Common.{arith}
use Rattle.cip_domain.proofs.regions.Region.sides.Goals as goal

pub sides-requires : goal.sides-requires
sides-requires c = grind (arith, common_steps)

pub returns : goal.returns
returns c = grind (arith, common_steps)
