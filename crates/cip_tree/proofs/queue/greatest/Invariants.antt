use Rattle.std.proofs.Common.{All, take}
use Rattle.cip_tree.specs.Bounds.{IsBoundAtMost}
use Rattle.cip_tree.proofs.queue.greatest.Given as goal

abbrev pub invariant-loop-node : goal.invariant-loop-node
invariant-loop-node l = All (λ node. IsBoundAtMost node.bound l.most) (take l.node-index l.nodes)
