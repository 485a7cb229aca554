use Rattle.cip_tree.proofs.Queues.{popped_queue, popped_answer, popped_waiting, left_unchanged}
use Rattle.cip_tree.proofs.queue.Queue.pop.Goals as goal

pub invariant_of-self : goal.invariant_of-self
invariant_of-self c = popped_queue c.pop.result _ _ c.self.inside.most c.pop.ensures.permutation c.pop.ensures.heap_order (left_unchanged c.pop.result c.self.inside.heap c.pop.new.self c.pop.ensures.unchanged) c.self.invariant

pub returns : goal.returns
returns c =
    popped_waiting c.pop.result c.self.inside.heap c.pop.new.self c.args.self.now c.self.view_is
    (popped_answer c.pop.result c.self.inside.heap c.pop.new.self c.pop.ensures.permutation c.pop.ensures.below_top c.pop.ensures.len c.pop.ensures.capacity c.pop.ensures.none c.pop.ensures.unchanged c.self.invariant.heap)
