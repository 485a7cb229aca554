use Rattle.std.proofs.lemmas.Grind.{common_steps}
use Rattle.std.proofs.Common.{arith}
use Rattle.cip_node.proofs.works.NodeWork.new.Goals as goal

pub returns : goal.returns
returns c = grind (arith, common_steps)

pub new-requires-clause-near : goal.new-requires-clause-near
new-requires-clause-near c = grind (arith, common_steps)

pub new-requires-clause-back : goal.new-requires-clause-back
new-requires-clause-back c = grind (arith, common_steps)
