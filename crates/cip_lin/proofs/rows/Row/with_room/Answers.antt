use Rattle.std.proofs.lemmas.Grind.{common_steps}
use Rattle.std.proofs.Common.{arith}
use Rattle.cip_lin.proofs.rows.Row.with_room.Goals as goal

pub returns : goal.returns
returns c = grind (arith, common_steps)

pub invariant_of-result : goal.invariant_of-result
invariant_of-result c = grind (arith, common_steps)

pub with_capacity-requires : goal.with_capacity-requires
with_capacity-requires c = grind (arith, common_steps)
