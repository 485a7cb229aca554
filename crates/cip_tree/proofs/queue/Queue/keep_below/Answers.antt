use Rattle.std.proofs.lemmas.Grind.{common_steps}
use Rattle.std.proofs.Common.{rules, ap, subst, ◌∙◌, arith}
use Rattle.std.specs.Prelude.{filter}
use Rattle.std.specs.List.Sorted.{IsPermutation}
use Rattle.std.proofs.lemmas.Fn.{filter_same}
use Rattle.cip_tree.specs.Queue.{is_below}
use Rattle.cip_tree.proofs.queue.Queue.keep_below.Goals as goal

pub returns-clause-nodes : goal.returns-clause-nodes
returns-clause-nodes c =
    let filtered = c.retain.ensures.filtered in
    let e = filter_same _ (is_below c.args.cost) _ (λ x b f' k. search rules) _ _ filtered.1 in
    subst (λ t. IsPermutation t c.retain.new.self.data.items) (e ∙ ap (λ q. filter (is_below c.args.cost) q.nodes) c.self.view_is) filtered.2

pub invariant_of-self : goal.invariant_of-self
invariant_of-self c = grind (arith, common_steps)

pub returns-clause-room : goal.returns-clause-room
returns-clause-room c = grind (arith, common_steps)
