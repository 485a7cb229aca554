use Rattle.std.proofs.lemmas.Grind.{common_steps}
use Rattle.cip_tree.specs.Nodes.{node_in}
use Rattle.std.proofs.Common.{ap, subst, sym, filter, refl, ◌≤◌, ℕ, count_by, All, arith}
use Rattle.std.specs.List.Sorted.{IsPermutation}
use Rattle.cip_tree.specs.Entries.{entries_of}
use Rattle.cip_tree.specs.Nodes.{filled_base, Nodes}
use Rattle.cip_tree.specs.Moves.{is_cheaper}
use Rattle.cip_tree.specs.Inside.{nodes_at, is_at, StandsAs}
use Rattle.cip_tree.specs.Freed.{dearer, AreReleased}
use Rattle.cip_tree.proofs.Orders.{nodes_equal}
use Rattle.cip_tree.proofs.Closing.{closed_nodes, none_closed, closed_length}
use Rattle.cip_tree.proofs.Freeing.{freed_order, freed_nodes, freed_parked, freed_places}
use Rattle.cip_tree.proofs.Tracking.{tracked_freed}
use Rattle.cip_tree.proofs.Rooms.{room_fewer}
use Rattle.cip_tree.proofs.WalkedOn.{walked_freed}
use Rattle.cip_tree.specs.declared.kept.Stage.TheVariants.{Open}
use Rattle.cip_tree.proofs.trees.Tree.close_from.Goals as goal

pub release_from-requires-clause-once : goal.release_from-requires-clause-once
release_from-requires-clause-once c = subst (λ l. (place : ℕ) → count_by (is_at place) l ≤ 1) (sym c.as_slice.ensures) c.self.invariant.0.once

pub invariant_of-self : goal.invariant_of-self
invariant_of-self c =
    let freed = subst (λ l. AreReleased c.self.inside.kept.slots c.release_from.new.kept.slots (dearer c.args.cost l)) c.as_slice.ensures c.release_from.ensures.slots in
    let shorter = closed_length c.args.cost c.self.inside.queue.nodes c.keep_below.new.self.nodes c.keep_below.ensures.nodes in (
      freed_order c.self.inside.root c.self.inside.kept.slots c.release_from.new.kept.slots c.args.cost c.self.inside.queue.nodes c.keep_below.new.self.nodes c.self.inside.parked.items c.self.inside.ids c.self.inside.in_work c.self.invariant.0 freed c.release_from.ensures.kept c.keep_below.ensures.nodes,
      room_fewer _ _ _ _ _ _ _ c.self.invariant.1 shorter c.keep_below.ensures.room,
      tracked_freed (node_in c.self.inside.root 0 c.self.inside.root_bound) c.self.inside.whole.items c.self.inside.kept.slots c.release_from.new.kept.slots c.self.inside.ids (entries_of c.self.inside.log.items) c.self.invariant.2 c.self.invariant.0.kept _ freed c.release_from.ensures.kept,
      walked_freed c.self.inside.root c.self.inside.kept.slots c.release_from.new.kept.slots c.self.inside.ids c.self.inside.walk c.self.invariant.0.kept c.self.invariant.3 _ freed c.release_from.ensures.kept,
    )

pub returns-then-reaches-clause-nodes : goal.returns-then-reaches-clause-nodes
returns-then-reaches-clause-nodes c =
    let freed = subst (λ l. AreReleased c.self.inside.kept.slots c.release_from.new.kept.slots (dearer c.args.cost l)) c.as_slice.ensures c.release_from.ensures.slots in
    subst (λ (t : Nodes). IsPermutation (filter (is_cheaper c.args.cost) t.open_) (nodes_at c.self.inside.root c.release_from.new.kept.slots c.keep_below.new.self.nodes)) c.self.view_is
    (freed_nodes c.self.inside.root c.self.inside.kept.slots c.release_from.new.kept.slots c.args.cost c.self.inside.queue.nodes c.keep_below.new.self.nodes c.self.inside.parked.items c.self.inside.ids c.self.inside.in_work c.self.invariant.0 freed c.release_from.ensures.kept c.keep_below.ensures.nodes)

pub returns-then-reaches-clause-taken : goal.returns-then-reaches-clause-taken
returns-then-reaches-clause-taken c =
    let freed = subst (λ l. AreReleased c.self.inside.kept.slots c.release_from.new.kept.slots (dearer c.args.cost l)) c.as_slice.ensures c.release_from.ensures.slots in
    rw (← c.self.view_is) (λ k. ap (filled_base c.self.inside.root.choices) (freed_places c.self.inside.root c.self.inside.kept.slots c.release_from.new.kept.slots c.args.cost c.self.inside.queue.nodes c.keep_below.new.self.nodes c.self.inside.parked.items c.self.inside.ids c.self.inside.in_work c.self.invariant.0 freed c.release_from.ensures.kept c.keep_below.ensures.nodes k))

pub returns-then-reaches-clause-rest : goal.returns-then-reaches-clause-rest
returns-then-reaches-clause-rest c =
    let freed = subst (λ l. AreReleased c.self.inside.kept.slots c.release_from.new.kept.slots (dearer c.args.cost l)) c.as_slice.ensures c.release_from.ensures.slots in
    rw (← c.self.view_is) (nodes_equal _ _ _ _ _ _ _ _ _ _ _ refl (freed_parked c.self.inside.root c.self.inside.kept.slots c.release_from.new.kept.slots c.args.cost c.self.inside.queue.nodes c.keep_below.new.self.nodes c.self.inside.parked.items c.self.inside.ids c.self.inside.in_work c.self.invariant.0 freed c.release_from.ensures.kept c.keep_below.ensures.nodes) refl)

pub returns-else-reaches-clause-nodes : goal.returns-else-reaches-clause-nodes
returns-else-reaches-clause-nodes c =
    subst (λ (t : Nodes). IsPermutation (filter (is_cheaper c.args.cost) t.open_) t.open_) c.self.view_is
    (closed_nodes c.self.inside.root c.self.inside.kept.slots c.args.cost c.self.inside.queue.nodes c.self.inside.queue.nodes
    (none_closed c.args.cost c.self.inside.queue.nodes (c.reaches.ensures c.if-reaches.false)))

pub release_from-requires-clause-waiting : goal.release_from-requires-clause-waiting
release_from-requires-clause-waiting c = subst (All (StandsAs Open c.self.inside.kept.slots)) (sym c.as_slice.ensures)
    c.self.invariant.0.waiting

pub returns-else-reaches-clause-taken : goal.returns-else-reaches-clause-taken
returns-else-reaches-clause-taken c = grind (arith, common_steps)

pub returns-else-reaches-clause-rest : goal.returns-else-reaches-clause-rest
returns-else-reaches-clause-rest c = grind (arith, common_steps)
