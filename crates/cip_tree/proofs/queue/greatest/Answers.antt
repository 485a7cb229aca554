use Rattle.std.proofs.lemmas.Grind.{common_steps}
use Rattle.std.proofs.Common.{subst, arith}
use Rattle.std.proofs.lemmas.List.{take_all}
use Rattle.std.specs.Prelude.{All}
use Rattle.cip_tree.specs.Bounds.{IsBoundAtMost}
use Rattle.cip_tree.proofs.Queues.{greatest_step}
use Rattle.cip_tree.proofs.queue.greatest.Goals as goal

pub loop-node-preserved : goal.loop-node-preserved
loop-node-preserved c = greatest_step c.loop-node.most c.greater-most.result c.args.nodes.now c.loop-node.node-index c.node-item.result c.loop-node-test.true c.node-item.is c.greater-most.ensures c.loop-node.invariant

pub returns : goal.returns
returns c = subst (All (λ node. IsBoundAtMost node.bound c.loop-node.most)) (take_all c.loop-node.node-index c.args.nodes.now c.loop-node-test.false) c.loop-node.invariant

pub loop-node-init : goal.loop-node-init
loop-node-init c = grind (arith, common_steps)

pub offset_bounds-nodes-node-index : goal.offset_bounds-nodes-node-index
offset_bounds-nodes-node-index c = grind (arith, common_steps)
