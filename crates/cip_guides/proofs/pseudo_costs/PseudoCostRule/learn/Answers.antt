use Rattle.std.proofs.lemmas.Grind.{common_steps}
use Rattle.std.proofs.Common.{arith}
use Rattle.cip_guides.proofs.pseudo_costs.PseudoCostRule.learn.Goals as goal

pub overflow_cast-split : goal.overflow_cast-split
overflow_cast-split c = grind (arith, common_steps)

pub get-requires : goal.get-requires
get-requires c = grind (arith, common_steps)
