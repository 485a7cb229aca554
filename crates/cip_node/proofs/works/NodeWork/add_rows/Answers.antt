use Rattle.std.proofs.lemmas.Grind.{common_steps}
use Rattle.std.proofs.Common.{arith}
use Rattle.cip_core.proofs.Relations.{later_at_itself}
use Rattle.cip_node.proofs.works.NodeWork.add_rows.Goals as goal

pub returns-clause-later : goal.returns-clause-later
returns-clause-later c = later_at_itself c.args.self.now.core c.args.node.now c.requires

pub returns-clause-none : goal.returns-clause-none
returns-clause-none c = grind (arith, common_steps)
