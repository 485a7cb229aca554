use Rattle.std.proofs.lemmas.Grind.{common_steps}
use Rattle.std.proofs.Common.{arith}
use Rattle.cip_core.proofs.Relations.{later_at_itself}
use Rattle.cip_node.proofs.bounding.raise_if.Goals as goal

pub returns-in-None-clause-later : goal.returns-in-None-clause-later
returns-in-None-clause-later c = later_at_itself c.args.core.now c.args.node.now c.requires.at_work

pub raise-requires-clause-holds : goal.raise-requires-clause-holds
raise-requires-clause-holds c = grind (arith, common_steps)

pub returns-in-Some-clause-raised : goal.returns-in-Some-clause-raised
returns-in-Some-clause-raised c = grind (arith, common_steps)

pub returns-in-None-clause-raised : goal.returns-in-None-clause-raised
returns-in-None-clause-raised c = grind (arith, common_steps)

pub returns-in-Some-clause-node : goal.returns-in-Some-clause-node
returns-in-Some-clause-node c = grind (arith, common_steps)

pub returns-in-Some-clause-later : goal.returns-in-Some-clause-later
returns-in-Some-clause-later c = grind (arith, common_steps)

pub raise-requires-clause-at_work : goal.raise-requires-clause-at_work
raise-requires-clause-at_work c = grind (arith, common_steps)

pub returns-in-None-clause-node : goal.returns-in-None-clause-node
returns-in-None-clause-node c = grind (arith, common_steps)
