use Rattle.std.proofs.lemmas.Grind.{common_steps}
use Rattle.std.proofs.Common.{subst, arith, refl, heap_items}
use Rattle.cip_tree.specs.Queue.{IsLeast}
use Rattle.cip_tree.proofs.Queues.{first_is_least}
use Rattle.cip_tree.proofs.queue.Queue.least.Goals as goal

pub returns-in-Some : goal.returns-in-Some
returns-in-Some c =
    subst (λ w. IsLeast c.in-Some.node.now.bound w.nodes) c.self.view_is
    (first_is_least c.in-Some.node.now (heap_items c.self.inside.heap) (omega (arith, c.in-Some.ensures.variant.0 refl, c.self.inside.heap.data.ok.0)) c.in-Some.ensures.lookup (c.in-Some.ensures.greatest c.self.invariant.heap))

pub returns-in-None : goal.returns-in-None
returns-in-None c = grind (arith, common_steps)
