use Rattle.std.proofs.lemmas.Grind.{common_steps}
use Rattle.std.proofs.Common.{◌≡◌, ◌∷◌, [], ◌∙◌, ap, subst, arith, rules}
use Rattle.std.specs.List.Sorted.{IsPermutation}
use Rattle.cip_tree.proofs.Queues.{one_permuted}
use Rattle.cip_tree.proofs.queue.Queue.new.Goals as goal

pub returns : goal.returns
returns c =
    let none : c.reserve.new.self.nodes ≡ [] = ap (λ q. q.nodes) c.in_ok-reserve.ensures.same ∙ search rules in
    one_permuted c.args.node c.push.new.self.nodes (subst (λ t. IsPermutation (c.args.node ∷ t) c.push.new.self.nodes) none c.push.ensures.nodes)

pub push-requires : goal.push-requires
push-requires c = grind (arith, common_steps)

pub invariant_of-queue : goal.invariant_of-queue
invariant_of-queue c = grind (arith, common_steps)

pub same-queue : goal.same-queue
same-queue c = grind (arith, common_steps)
