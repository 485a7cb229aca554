use Rattle.cip_tree.specs.Nodes.{node_in}
use Rattle.std.proofs.Common.{◌≡◌, ◌∷◌, None, get_or, sym, ap, ◌∙◌, subst, refl, arith}
use Rattle.std.specs.List.Sorted.{IsPermutation}
use Rattle.std.proofs.lemmas.List.Sorted.{length_permutation}
use Rattle.cip_tree.specs.Nodes.{filled_base, Nodes, TakenNode, base_at}
use Rattle.cip_tree.specs.Inside.{bases, nodes_at}
use Rattle.cip_tree.proofs.Orders.{taken_some, open_is_not, back_order, back_some, back_parked, back_nodes, back_gone, back_others, nodes_equal}
use Rattle.cip_tree.specs.Entries.{entries_of}
use Rattle.cip_tree.proofs.Tracking.{tracked_back}
use Rattle.cip_tree.proofs.Rooms.{room_back}
use Rattle.cip_tree.proofs.WalkedOn.{walked_stage}
use Rattle.cip_tree.proofs.Filled.{after_base, unfilled}
use Rattle.cip_tree.proofs.Paths.{in_work}
use Rattle.cip_tree.proofs.trees.Tree.put_back.Goals as goal

pub invariant_of-self : goal.invariant_of-self
invariant_of-self c =
    let base = unfilled c.self.inside.root.choices (get_or (bases c.self.inside.kept.slots) c.node.inside.place None) c.requires.base (ap (λ (t : Nodes). base_at t c.node.inside.place) c.self.view_is ∙ ap (λ (x : TakenNode). base_at c.args.self.now x.place) c.node.view_is ∙ c.requires.found) in
    let number = base.number ∙ c.requires.same ∙ sym (ap (λ (x : TakenNode). x.number) c.node.view_is) in
    let some = back_some c.self.inside.root c.self.inside.kept.slots c.restage.new.kept.slots c.node.inside.place _ _ c.self.inside.queue.nodes c.push.new.self.nodes c.self.inside.parked.items c.self.inside.ids c.self.inside.in_work c.node.inside.id c.node.inside.bound base.raw c.self.invariant.0 base.found number c.restage.ensures.slots c.push.ensures.nodes in
    let longer = length_permutation _ _ c.push.ensures.nodes in (
      back_order c.self.inside.root c.self.inside.kept.slots c.restage.new.kept.slots c.node.inside.place _ _ c.self.inside.queue.nodes c.push.new.self.nodes c.self.inside.parked.items c.self.inside.ids c.self.inside.in_work c.node.inside.id c.node.inside.bound base.raw c.self.invariant.0 base.found number c.restage.ensures.slots c.push.ensures.nodes,
      room_back _ _ _ _ _ _ _ c.self.invariant.1 some longer c.push.ensures.room,
      tracked_back (node_in c.self.inside.root 0 c.self.inside.root_bound) c.self.inside.whole.items c.self.inside.kept.slots c.restage.new.kept.slots c.self.inside.ids (entries_of c.self.inside.log.items) c.self.invariant.2 c.self.invariant.0.kept c.node.inside.place base.raw base.found _ _ c.restage.ensures.slots,
      walked_stage c.self.inside.root c.self.inside.kept.slots c.restage.new.kept.slots c.self.inside.ids c.self.inside.walk c.self.invariant.0.kept c.self.invariant.3 c.node.inside.place base.raw base.found _ _ _ open_is_not c.restage.ensures.slots,
    )

pub returns-clause-nodes : goal.returns-clause-nodes
returns-clause-nodes c =
    let base = unfilled c.self.inside.root.choices (get_or (bases c.self.inside.kept.slots) c.node.inside.place None) c.requires.base (ap (λ (t : Nodes). base_at t c.node.inside.place) c.self.view_is ∙ ap (λ (x : TakenNode). base_at c.args.self.now x.place) c.node.view_is ∙ c.requires.found) in
    let number = base.number ∙ c.requires.same ∙ sym (ap (λ (x : TakenNode). x.number) c.node.view_is) in
    let nodes = back_nodes c.self.inside.root c.self.inside.kept.slots c.restage.new.kept.slots c.node.inside.place _ _ c.self.inside.queue.nodes c.push.new.self.nodes c.self.inside.parked.items c.self.inside.ids c.self.inside.in_work c.node.inside.id c.node.inside.bound base.raw c.self.invariant.0 base.found number c.restage.ensures.slots c.push.ensures.nodes in
    rw (← c.self.view_is, ← c.node.view_is)
    (subst (λ r. IsPermutation ((node_in r c.node.inside.id c.node.inside.bound) ∷ nodes_at c.self.inside.root c.self.inside.kept.slots c.self.inside.queue.nodes) (nodes_at c.self.inside.root c.restage.new.kept.slots c.push.new.self.nodes)) (after_base c.self.inside.root c.node.inside.notes.items (get_or (bases c.self.inside.kept.slots) c.node.inside.place None) base.raw base.found) nodes)

pub returns-clause-taken : goal.returns-clause-taken
returns-clause-taken c =
    let base = unfilled c.self.inside.root.choices (get_or (bases c.self.inside.kept.slots) c.node.inside.place None) c.requires.base (ap (λ (t : Nodes). base_at t c.node.inside.place) c.self.view_is ∙ ap (λ (x : TakenNode). base_at c.args.self.now x.place) c.node.view_is ∙ c.requires.found) in
    let number = base.number ∙ c.requires.same ∙ sym (ap (λ (x : TakenNode). x.number) c.node.view_is) in
    let gone = back_gone c.self.inside.root c.self.inside.kept.slots c.restage.new.kept.slots c.node.inside.place _ _ c.self.inside.queue.nodes c.push.new.self.nodes c.self.inside.parked.items c.self.inside.ids c.self.inside.in_work c.node.inside.id c.node.inside.bound base.raw c.self.invariant.0 base.found number c.restage.ensures.slots c.push.ensures.nodes in
    let others = back_others c.self.inside.root c.self.inside.kept.slots c.restage.new.kept.slots c.node.inside.place _ _ c.self.inside.queue.nodes c.push.new.self.nodes c.self.inside.parked.items c.self.inside.ids c.self.inside.in_work c.node.inside.id c.node.inside.bound base.raw c.self.invariant.0 base.found number c.restage.ensures.slots c.push.ensures.nodes in
    let place : c.node.inside.place ≡ c.args.node.place = ap (λ (x : TakenNode). x.place) c.node.view_is in
    record {
      gone = subst (λ k. filled_base c.self.inside.root.choices (get_or (bases c.restage.new.kept.slots) k None) ≡ None)
          place (ap (filled_base c.self.inside.root.choices) gone);
      others = λ k d. ap (filled_base c.self.inside.root.choices) (others k (λ e. d (e ∙ place)))
          ∙ ap (λ (t : Nodes). base_at t k) c.self.view_is;
    }

pub returns-clause-rest : goal.returns-clause-rest
returns-clause-rest c =
    let base = unfilled c.self.inside.root.choices (get_or (bases c.self.inside.kept.slots) c.node.inside.place None) c.requires.base (ap (λ (t : Nodes). base_at t c.node.inside.place) c.self.view_is ∙ ap (λ (x : TakenNode). base_at c.args.self.now x.place) c.node.view_is ∙ c.requires.found) in
    let number = base.number ∙ c.requires.same ∙ sym (ap (λ (x : TakenNode). x.number) c.node.view_is) in
    let parked = back_parked c.self.inside.root c.self.inside.kept.slots c.restage.new.kept.slots c.node.inside.place _ _ c.self.inside.queue.nodes c.push.new.self.nodes c.self.inside.parked.items c.self.inside.ids c.self.inside.in_work c.node.inside.id c.node.inside.bound base.raw c.self.invariant.0 base.found number c.restage.ensures.slots c.push.ensures.nodes in
    let now = nodes_at c.self.inside.root c.restage.new.kept.slots c.push.new.self.nodes in
    nodes_equal _ _ _ _ _ _ _ _ _ _ _ refl parked refl
    ∙ ap (λ (t : Nodes). (let x : Nodes = record t { open_ = now; taken = bases c.restage.new.kept.slots } in x))
    c.self.view_is

pub restage-requires : goal.restage-requires
restage-requires c =
    let base = unfilled c.self.inside.root.choices (get_or (bases c.self.inside.kept.slots) c.node.inside.place None)
    c.requires.base (ap (λ (t : Nodes). base_at t c.node.inside.place) c.self.view_is
    ∙ ap (λ (x : TakenNode). base_at c.args.self.now x.place) c.node.view_is ∙ c.requires.found) in
    rw ((in_work c.self.inside.kept.slots c.node.inside.place base.raw base.found).found) refl

pub overflow_sub-self : goal.overflow_sub-self
overflow_sub-self c =
    let base = unfilled c.self.inside.root.choices (get_or (bases c.self.inside.kept.slots) c.node.inside.place None)
    c.requires.base (ap (λ (t : Nodes). base_at t c.node.inside.place) c.self.view_is
    ∙ ap (λ (x : TakenNode). base_at c.args.self.now x.place) c.node.view_is ∙ c.requires.found) in
    taken_some c.self.inside.root c.self.inside.kept.slots c.self.inside.kept.slots c.node.inside.place
    c.self.inside.queue.nodes c.self.inside.parked.items c.self.inside.ids c.self.inside.in_work base.raw
    c.self.invariant.0 base.found

pub push-requires : goal.push-requires
push-requires c =
    let base = unfilled c.self.inside.root.choices (get_or (bases c.self.inside.kept.slots) c.node.inside.place None)
    c.requires.base (ap (λ (t : Nodes). base_at t c.node.inside.place) c.self.view_is
    ∙ ap (λ (x : TakenNode). base_at c.args.self.now x.place) c.node.view_is ∙ c.requires.found) in
    let some = taken_some c.self.inside.root c.self.inside.kept.slots c.self.inside.kept.slots c.node.inside.place
    c.self.inside.queue.nodes c.self.inside.parked.items c.self.inside.ids c.self.inside.in_work base.raw
    c.self.invariant.0 base.found in
    omega (arith, some, c.self.invariant.1.queue)
