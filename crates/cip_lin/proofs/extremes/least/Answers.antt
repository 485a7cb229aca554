use Rattle.std.proofs.lemmas.Grind.{common_steps}
use Rattle.std.proofs.Common.{arith}
use Rattle.cip_lin.proofs.extremes.least.Goals as goal

pub least_sum-requires : goal.least_sum-requires
least_sum-requires c = grind (arith, common_steps)

pub returns : goal.returns
returns c = grind (arith, common_steps)
