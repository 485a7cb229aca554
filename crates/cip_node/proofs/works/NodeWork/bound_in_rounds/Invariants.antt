use Rattle.std.proofs.Common.{◌≡◌}
use Rattle.cip_tree.specs.Nodes.{region_of}
use Rattle.cip_core.specs.Later.{IsLaterAt}
use Rattle.cip_node.specs.SameRows.{HasSameRows}
use Rattle.cip_node.proofs.works.NodeWork.bound_in_rounds.Given as goal

abbrev pub invariant-loop : goal.invariant-loop
invariant-loop l = record {
  later : IsLaterAt l.fn.self.core l.fn.node l.self.core l.node;
  region : region_of l.self.core.tree l.node ≡ region_of l.fn.self.core.tree l.fn.node;
  rows : HasSameRows l.fn.self.core l.self.core;
}
