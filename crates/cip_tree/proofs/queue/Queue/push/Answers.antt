use Rattle.std.proofs.Common.{◌≡◌, ◌<◌, ◌+◌, ◌∷◌, sym, ap, subst, arith, heap_items, heap_len}
use Rattle.std.specs.BinaryHeap.{heap_capacity}
use Rattle.std.specs.List.Sorted.{IsPermutation}
use Rattle.cip_tree.specs.Queue.{IsQueue}
use Rattle.cip_tree.proofs.Queues.{pushed_queue, when_ok}
use Rattle.cip_tree.proofs.queue.Queue.push.Goals as goal

pub invariant_of-self : goal.invariant_of-self
invariant_of-self c =
    let room : heap_len c.self.inside.heap < heap_capacity c.self.inside.heap = omega (arith, c.requires, ap (λ q. q.spare) c.self.view_is) in
    let ok = c.push.ensures.succeeds room in
    subst (IsQueue (heap_items c.push.new.self)) (sym c.greater-self-inside.ensures)
    (pushed_queue c.args.node (heap_items c.self.inside.heap) (heap_items c.push.new.self) c.self.inside.most (when_ok c.push.result _ ok c.push.ensures.permutation) (when_ok c.push.result _ ok c.push.ensures.heap_order) c.self.invariant)

pub returns-clause-nodes : goal.returns-clause-nodes
returns-clause-nodes c =
    let room : heap_len c.self.inside.heap < heap_capacity c.self.inside.heap = omega (arith, c.requires, ap (λ q. q.spare) c.self.view_is) in
    subst (λ w. IsPermutation (c.args.node ∷ w.nodes) (heap_items c.push.new.self)) c.self.view_is (when_ok c.push.result _ (c.push.ensures.succeeds room) c.push.ensures.permutation)

pub returns-clause-room : goal.returns-clause-room
returns-clause-room c =
    let room : heap_len c.self.inside.heap < heap_capacity c.self.inside.heap = omega (arith, c.requires, ap (λ q. q.spare) c.self.view_is) in
    let longer : heap_len c.push.new.self ≡ heap_len c.self.inside.heap + 1 = when_ok c.push.result _ (c.push.ensures.succeeds room) c.push.ensures.len in
    omega (arith, longer, c.push.ensures.capacity, ap (λ q. q.spare) c.self.view_is)
