use Rattle.std.proofs.lemmas.Grind.{common_steps}
use Rattle.cip_tree.specs.Nodes.{node_in}
use Rattle.std.proofs.Common.{◌∷◌, [], ap, subst, refl, arith}
use Rattle.std.specs.List.Sorted.{IsPermutation}
use Rattle.std.proofs.lemmas.List.Sorted.{length_permutation}
use Rattle.cip_tree.specs.Entries.{entries_of}
use Rattle.cip_tree.specs.Nodes.{filled_base}
use Rattle.cip_tree.proofs.Filled.{after_base}
use Rattle.cip_tree.specs.Inside.{nodes_at}
use Rattle.cip_tree.proofs.Orders.{first_kept, first_stands, first_order, first_parked, first_found, first_number, first_fresh, first_others, first_nodes, first_before, nodes_equal}
use Rattle.cip_tree.proofs.Tracking.{tracked_first, first_unended}
use Rattle.cip_tree.proofs.Rooms.{room_first}
use Rattle.cip_tree.proofs.WalkedOn.{walked_first}
use Rattle.cip_tree.proofs.trees.Tree.next.Goals as goal

pub restage-notes-requires : goal.restage-notes-requires
restage-notes-requires c =
    let k = first_kept c.self.inside.root c.self.inside.kept.slots c.self.inside.kept.slots c.in_ok-first.first [] [] c.self.inside.queue.nodes c.pop.new.self.nodes c.self.inside.parked.items c.self.inside.ids c.self.inside.in_work c.self.invariant.0 c.in_ok-first.ensures.0 in
    rw (k.1) refl

pub invariant_of-self-2 : goal.invariant_of-self-2
invariant_of-self-2 c =
    let shorter = length_permutation _ _ c.in_ok-first.ensures.0 in (
      first_order c.self.inside.root c.self.inside.kept.slots c.restage-notes.new.kept.slots c.in_ok-first.first c.restage-notes.result.items c.new-none.result.items c.self.inside.queue.nodes c.pop.new.self.nodes c.self.inside.parked.items c.self.inside.ids c.self.inside.in_work c.self.invariant.0 c.in_ok-first.ensures.0 c.restage-notes.ensures.slots c.new-none.ensures.items,
      room_first _ _ _ _ _ _ _ c.self.invariant.1 shorter c.in_ok-first.ensures.2,
      tracked_first (node_in c.self.inside.root 0 c.self.inside.root_bound) c.self.inside.whole.items c.self.inside.kept.slots c.restage-notes.new.kept.slots c.self.inside.ids (entries_of c.self.inside.log.items) c.self.invariant.2 c.self.invariant.0.kept c.in_ok-first.first c.restage-notes.result.items _
          (first_stands c.self.inside.root c.self.inside.kept.slots c.restage-notes.new.kept.slots c.in_ok-first.first [] [] c.self.inside.queue.nodes c.pop.new.self.nodes c.self.inside.parked.items c.self.inside.ids c.self.inside.in_work c.self.invariant.0 c.in_ok-first.ensures.0)
          c.restage-notes.ensures.slots,
      walked_first c.self.inside.root c.self.inside.kept.slots c.restage-notes.new.kept.slots c.self.inside.ids c.self.inside.walk c.self.invariant.0.kept c.self.invariant.3 c.in_ok-first.first c.restage-notes.result.items _
          (first_stands c.self.inside.root c.self.inside.kept.slots c.restage-notes.new.kept.slots c.in_ok-first.first [] [] c.self.inside.queue.nodes c.pop.new.self.nodes c.self.inside.parked.items c.self.inside.ids c.self.inside.in_work c.self.invariant.0 c.in_ok-first.ensures.0)
          c.restage-notes.ensures.slots,
    )

pub returns : goal.returns
returns c =
    let found = first_found c.self.inside.root c.self.inside.kept.slots c.restage-notes.new.kept.slots c.in_ok-first.first c.restage-notes.result.items c.new-none.result.items c.self.inside.queue.nodes c.pop.new.self.nodes c.self.inside.parked.items c.self.inside.ids c.self.inside.in_work c.self.invariant.0 c.in_ok-first.ensures.0 c.restage-notes.ensures.slots c.new-none.ensures.items in
    let nodes = first_nodes c.self.inside.root c.self.inside.kept.slots c.restage-notes.new.kept.slots c.in_ok-first.first c.restage-notes.result.items c.new-none.result.items c.self.inside.queue.nodes c.pop.new.self.nodes c.self.inside.parked.items c.self.inside.ids c.self.inside.in_work c.self.invariant.0 c.in_ok-first.ensures.0 c.restage-notes.ensures.slots c.new-none.ensures.items in
    let shown_nodes = subst (λ r. IsPermutation (nodes_at c.self.inside.root c.self.inside.kept.slots c.self.inside.queue.nodes) ((node_in r c.in_ok-first.first.id c.in_ok-first.first.bound) ∷ nodes_at c.self.inside.root c.restage-notes.new.kept.slots c.pop.new.self.nodes)) (after_base c.self.inside.root c.restage-notes.result.items _ _ found) nodes in
    let stands = first_stands c.self.inside.root c.self.inside.kept.slots c.restage-notes.new.kept.slots c.in_ok-first.first [] [] c.self.inside.queue.nodes c.pop.new.self.nodes c.self.inside.parked.items c.self.inside.ids c.self.inside.in_work c.self.invariant.0 c.in_ok-first.ensures.0 in
    rw (← c.self.view_is)
    (record {
      nodes = shown_nodes;
      first = first_before c.self.inside.root c.self.inside.kept.slots c.restage-notes.new.kept.slots c.in_ok-first.first c.restage-notes.result.items c.new-none.result.items c.self.inside.queue.nodes c.pop.new.self.nodes c.self.inside.parked.items c.self.inside.ids c.self.inside.in_work c.self.invariant.0 c.in_ok-first.ensures.0 c.restage-notes.ensures.slots c.new-none.ensures.items c.in_ok-first.ensures.1 _;
      taken = record { base = _; found = ap (filled_base c.self.inside.root.choices) found; same = first_number c.self.inside.root c.self.inside.kept.slots c.restage-notes.new.kept.slots c.in_ok-first.first c.restage-notes.result.items c.new-none.result.items c.self.inside.queue.nodes c.pop.new.self.nodes c.self.inside.parked.items c.self.inside.ids c.self.inside.in_work c.self.invariant.0 c.in_ok-first.ensures.0 c.restage-notes.ensures.slots c.new-none.ensures.items };
      given = omega (arith, c.self.invariant.0.given c.in_ok-first.first.place stands.slot stands.found, stands.number);
      unended = first_unended (node_in c.self.inside.root 0 c.self.inside.root_bound) c.self.inside.whole.items c.self.inside.kept.slots c.restage-notes.new.kept.slots c.self.inside.ids (entries_of c.self.inside.log.items) c.self.invariant.2 c.self.invariant.0.kept c.in_ok-first.first stands;
      fresh = ap (filled_base c.self.inside.root.choices) (first_fresh c.self.inside.root c.self.inside.kept.slots c.restage-notes.new.kept.slots c.in_ok-first.first c.restage-notes.result.items c.new-none.result.items c.self.inside.queue.nodes c.pop.new.self.nodes c.self.inside.parked.items c.self.inside.ids c.self.inside.in_work c.self.invariant.0 c.in_ok-first.ensures.0 c.restage-notes.ensures.slots c.new-none.ensures.items);
      others = λ k d. ap (filled_base c.self.inside.root.choices) (first_others c.self.inside.root c.self.inside.kept.slots c.restage-notes.new.kept.slots c.in_ok-first.first c.restage-notes.result.items c.new-none.result.items c.self.inside.queue.nodes c.pop.new.self.nodes c.self.inside.parked.items c.self.inside.ids c.self.inside.in_work c.self.invariant.0 c.in_ok-first.ensures.0 c.restage-notes.ensures.slots c.new-none.ensures.items k d);
      rest = nodes_equal _ _ _ _ _ _ _ _ _ _ _ refl (first_parked c.self.inside.root c.self.inside.kept.slots c.restage-notes.new.kept.slots c.in_ok-first.first c.restage-notes.result.items c.new-none.result.items c.self.inside.queue.nodes c.pop.new.self.nodes c.self.inside.parked.items c.self.inside.ids c.self.inside.in_work c.self.invariant.0 c.in_ok-first.ensures.0 c.restage-notes.ensures.slots c.new-none.ensures.items) refl;
    })

pub invariant_of-self : goal.invariant_of-self
invariant_of-self c = grind (arith, common_steps)

pub returns-in_err-first : goal.returns-in_err-first
returns-in_err-first c = grind (arith, common_steps)

pub overflow_add-self : goal.overflow_add-self
overflow_add-self c = grind (arith, common_steps)
