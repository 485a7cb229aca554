use Rattle.std.proofs.lemmas.Grind.{common_steps}
use Rattle.std.proofs.Common.{arith}
use Rattle.cip_leaf.proofs.leaves.parts_of_leaf.Goals as goal

pub continuous_costs-requires : goal.continuous_costs-requires
continuous_costs-requires c = grind (arith, common_steps)

pub returns : goal.returns
returns c = grind (arith, common_steps)
