use Rattle.std.proofs.lemmas.Grind.{common_steps}
use Rattle.std.proofs.Common.{arith}
use Rattle.cip_core.proofs.beginning.root_bound.Goals as goal

pub returns-clause-holds : goal.returns-clause-holds
returns-clause-holds c = grind (arith, common_steps)

pub returns-clause-root : goal.returns-clause-root
returns-clause-root c = grind (arith, common_steps)

pub rounded_box_bound-requires : goal.rounded_box_bound-requires
rounded_box_bound-requires c = grind (arith, common_steps)
