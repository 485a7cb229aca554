use Rattle.std.proofs.lemmas.Grind.{common_steps}
use Rattle.std.proofs.Common.{arith}
use Rattle.cip_lin.proofs.rows.Row.empty.Goals as goal

pub invariant_of-result : goal.invariant_of-result
invariant_of-result c = grind (arith, common_steps)

pub returns : goal.returns
returns c = grind (arith, common_steps)

pub new-requires : goal.new-requires
new-requires c = grind (arith, common_steps)
