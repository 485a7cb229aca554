use Rattle.std.proofs.lemmas.Grind.{common_steps}
use Rattle.std.proofs.Common.{◌≡◌, ◌+◌, ◌-◌, ◌∷◌, ◌++◌, [], Some, None, map, get_or, length, arith, to_z, of_z, to_z-of_z, sym, ap, ◌∙◌, subst, refl}
use Rattle.std.specs.List.Sorted.{IsPermutation}
use Rattle.std.specs.Int.{w128}
use Rattle.std.proofs.lemmas.List.{map-append}
use Rattle.std.proofs.lemmas.List.Sorted.{length_permutation}
use Rattle.cip_problem.specs.Log.{Entry, Split, low_node, high_node, CanSplit}
use Rattle.cip_domain.specs.Changes.{tightened}
use Rattle.cip_tree.specs.declared.queue.OpenNode.{OpenNode}
use Rattle.cip_tree.specs.declared.logs.Logged.{Logged}
use Rattle.cip_tree.specs.declared.logs.End.TheVariants.{Split as LoggedSplit}
use Rattle.cip_tree.specs.Entries.{entry_of, entries_of}
use Rattle.cip_tree.specs.Notes.{noted}
use Rattle.cip_tree.specs.Origins.{Origin, half_change, low_part, high_part, filled, after}
use Rattle.cip_tree.specs.Slots.{open_slot, slot_at, IsParted}
use Rattle.cip_tree.specs.Nodes.{filled_base, Nodes, TakenNode, base_at, node_in, region_in, region_of, shown}
use Rattle.cip_tree.specs.Inside.{bases, nodes_at, IsInOrder}
use Rattle.cip_tree.specs.Splitting.{IsParting, IsSplitFault}
use Rattle.cip_tree.proofs.Paths.{in_work}
use Rattle.cip_tree.proofs.Orders.{taken_some, nodes_equal, order_same}
use Rattle.cip_tree.proofs.Parted.{part_order, part_parked, part_nodes, part_gone, part_others}
use Rattle.cip_tree.specs.Tracked.{IsTracked}
use Rattle.cip_tree.proofs.Within.{halves_hold}
use Rattle.cip_tree.proofs.Tracking.{tracked_split}
use Rattle.cip_tree.proofs.Rooms.{room_second, room_split, room_some, room_entry, room_grown}
use Rattle.cip_tree.proofs.WalkedOn.{walked_split}
use Rattle.cip_tree.proofs.Filled.{after_base, unfilled}
use Rattle.cip_problem.specs.Wholes.{AllHaveWholes}
use Rattle.cip_domain.specs.Changes.{Region}
use Rattle.std.specs.Prelude.{IsSome}
use Rattle.cip_domain.specs.Domain.{region_of as region_in_work}
use Rattle.cip_tree.specs.Walks.{IsWalked}
use Rattle.cip_tree.proofs.SplitColumns.{fault_told}
use Rattle.cip_tree.proofs.trees.Tree.split.Goals as goal

pub part-low_place-requires-clause-slot : goal.part-low_place-requires-clause-slot
part-low_place-requires-clause-slot c =
    let base = unfilled c.self.inside.root.choices (get_or (bases c.self.inside.kept.slots) c.node.inside.place None) c.requires.taken.base (ap (λ (t : Nodes). base_at t c.node.inside.place) c.self.view_is ∙ ap (λ (x : TakenNode). base_at c.args.self.now x.place) c.node.view_is ∙ c.requires.taken.found) in
    let s = in_work c.self.inside.kept.slots c.node.inside.place base.raw base.found in
    subst (λ l. IsSome (slot_at l c.node.inside.place)) (sym c.make_room.ensures.kept)
    (subst IsSome (sym s.found) refl)

pub push-requires-2 : goal.push-requires-2
push-requires-2 c =
    let base = unfilled c.self.inside.root.choices (get_or (bases c.self.inside.kept.slots) c.node.inside.place None) c.requires.taken.base (ap (λ (t : Nodes). base_at t c.node.inside.place) c.self.view_is ∙ ap (λ (x : TakenNode). base_at c.args.self.now x.place) c.node.view_is ∙ c.requires.taken.found) in
    let some = taken_some c.self.inside.root c.self.inside.kept.slots c.self.inside.kept.slots c.node.inside.place c.self.inside.queue.nodes c.self.inside.parked.items c.self.inside.ids c.self.inside.in_work base.raw c.self.invariant.0 base.found in
    room_second _ _ _ some c.in_ok-make_room.ensures.room.1 c.push.ensures.room

pub overflow_sub-self : goal.overflow_sub-self
overflow_sub-self c =
    let base = unfilled c.self.inside.root.choices (get_or (bases c.self.inside.kept.slots) c.node.inside.place None) c.requires.taken.base (ap (λ (t : Nodes). base_at t c.node.inside.place) c.self.view_is ∙ ap (λ (x : TakenNode). base_at c.args.self.now x.place) c.node.view_is ∙ c.requires.taken.found) in
    taken_some c.self.inside.root c.self.inside.kept.slots c.self.inside.kept.slots c.node.inside.place c.self.inside.queue.nodes c.self.inside.parked.items c.self.inside.ids c.self.inside.in_work base.raw c.self.invariant.0 base.found

pub invariant_of-self-2 : goal.invariant_of-self-2
invariant_of-self-2 c =
    let base = unfilled c.self.inside.root.choices (get_or (bases c.self.inside.kept.slots) c.node.inside.place None) c.requires.taken.base (ap (λ (t : Nodes). base_at t c.node.inside.place) c.self.view_is ∙ ap (λ (x : TakenNode). base_at c.args.self.now x.place) c.node.view_is ∙ c.requires.taken.found) in
    let at_is : to_z w128 (of_z w128 c.args.at) ≡ c.args.at = to_z-of_z c.ranges.at in
    let parting : IsParting c.args.self.now c.args.node.now c.args.col c.args.at c.in_ok-parting.parting = subst (λ z. IsParting c.args.self.now c.args.node.now c.args.col z c.in_ok-parting.parting) at_is (c.in_ok-parting.ensures c.args.node.now c.requires.work) in
    let halves = parting.halves in
    let low_change = half_change (low_part c.in_ok-parting.parting) c.args.col c.args.at in
    let high_change = half_change (high_part c.in_ok-parting.parting) c.args.col c.args.at in
    let notes : c.in_ok-notes.notes.items ≡ c.node.inside.notes.items = c.in_ok-notes.ensures.items_if_clones_equal
    (λ x y e. e) ∙ c.as_slice.ensures.value in
    let low = c.new_kept-low_kept.ensures ∙ ap (λ o. open_slot c.self.inside.ids (Some o)) (c.half-low_origin.ensures ∙ ap (λ z. (let o : Origin = record { parent = c.node.inside.place; change = half_change (low_part c.in_ok-parting.parting) c.args.col z } in o)) at_is) in
    let high = c.new_kept-high_kept.ensures ∙ ap (λ o. open_slot (c.self.inside.ids + 1) (Some o)) (c.half-high_origin.ensures ∙ ap (λ z. (let o : Origin = record { parent = c.node.inside.place; change = half_change (high_part c.in_ok-parting.parting) c.args.col z } in o)) at_is) in
    let parted =
    subst (λ l. IsParted c.self.inside.kept.slots c.part-low_place.new.kept.slots c.node.inside.place c.node.inside.notes.items l (open_slot (c.self.inside.ids + 1) (Some (let o : Origin = record { parent = c.node.inside.place; change = high_change } in o))) c.part-low_place.result.0 c.part-low_place.result.1) low
    (subst (λ l. IsParted c.self.inside.kept.slots c.part-low_place.new.kept.slots c.node.inside.place c.node.inside.notes.items c.new_kept-low_kept.result l c.part-low_place.result.0 c.part-low_place.result.1) high
    (subst (λ l. IsParted c.self.inside.kept.slots c.part-low_place.new.kept.slots c.node.inside.place l c.new_kept-low_kept.result c.new_kept-high_kept.result c.part-low_place.result.0 c.part-low_place.result.1) notes
    (subst (λ l. IsParted l c.part-low_place.new.kept.slots c.node.inside.place c.in_ok-notes.notes.items c.new_kept-low_kept.result c.new_kept-high_kept.result c.part-low_place.result.0 c.part-low_place.result.1) c.make_room.ensures.kept c.part-low_place.ensures.slots))) in
    let first = subst (λ e. IsPermutation (e ∷ c.self.inside.queue.nodes) c.push.new.self.nodes) (c.open_node.ensures ∙ ap (λ (x : TakenNode). (let e : OpenNode = record { bound = x.bound; id = c.self.inside.ids + 1; place = c.part-low_place.result.1 } in e)) (sym c.node.view_is))
    (subst (λ l. IsPermutation (c.open_node.result ∷ l) c.push.new.self.nodes) c.make_room.ensures.queue c.push.ensures.nodes) in
    let second = subst (λ e. IsPermutation (e ∷ c.push.new.self.nodes) c.push-2.new.self.nodes) (c.open_node-2.ensures ∙ ap (λ (x : TakenNode). (let e : OpenNode = record { bound = x.bound; id = c.self.inside.ids; place = c.part-low_place.result.0 } in e)) (sym c.node.view_is)) c.push-2.ensures.nodes in
    let region = after c.self.inside.root (noted c.node.inside.notes.items ++ base.raw.changes) in
    let region_is : region ≡ region_of c.args.self.now c.args.node.now =
    after_base c.self.inside.root c.node.inside.notes.items (get_or (bases c.self.inside.kept.slots) c.node.inside.place None) base.raw base.found
    ∙ ap (λ (t : Nodes). region_of t (let x : TakenNode = record { number = c.node.inside.id; bound = c.node.inside.bound; place = c.node.inside.place; notes = c.node.inside.notes.items } in x)) c.self.view_is
    ∙ ap (λ (x : TakenNode). region_of c.args.self.now x) c.node.view_is in
    let low_after = ap (λ r. tightened r (filled c.self.inside.root.choices low_change)) region_is ∙ ap (λ (t : Nodes). tightened (region_of c.args.self.now c.args.node.now) (filled t.root.choices low_change)) c.self.view_is ∙ halves.low_is in
    let high_after = ap (λ r. tightened r (filled c.self.inside.root.choices high_change)) region_is ∙ ap (λ (t : Nodes). tightened (region_of c.args.self.now c.args.node.now) (filled t.root.choices high_change)) c.self.view_is ∙ halves.high_is in
    let some = taken_some c.self.inside.root c.self.inside.kept.slots c.self.inside.kept.slots c.node.inside.place c.self.inside.queue.nodes c.self.inside.parked.items c.self.inside.ids c.self.inside.in_work base.raw c.self.invariant.0 base.found in
    let one = length_permutation _ _ first in
    let two = length_permutation _ _ second in
    let number = base.number ∙ c.requires.taken.same ∙ sym (ap (λ (x : TakenNode). x.number) c.node.view_is) in
    let entry = ap (λ z. (let x : Entry = record { node = c.node.inside.id; bound = c.node.inside.bound; end = Split c.args.col z c.self.inside.ids (c.self.inside.ids + 1) } in x)) at_is in
    let logged : Logged = record { id = c.node.inside.id; bound = c.node.inside.bound; end = LoggedSplit c.args.col (to_z w128 (of_z w128 c.args.at)) c.self.inside.ids (c.self.inside.ids + 1) } in
    let log = ap (λ l. map entry_of l) (c.push_reserved.ensures.items ∙ ap (λ l. l ++ logged ∷ []) c.make_room.ensures.log) ∙ map-append entry_of c.self.inside.log.items (logged ∷ []) ∙ ap (λ e. map entry_of c.self.inside.log.items ++ e ∷ []) entry in
    let node_is : node_in region c.node.inside.id c.node.inside.bound ≡ shown c.args.self.now c.args.node.now =
    ap (λ r. node_in r c.node.inside.id c.node.inside.bound) region_is ∙ ap (λ (x : TakenNode). node_in (region_of c.args.self.now c.args.node.now) x.number x.bound) c.node.view_is in
    let can : CanSplit c.self.inside.whole.items (node_in region c.node.inside.id c.node.inside.bound) c.args.col c.args.at =
    subst (λ (t : Nodes). CanSplit t.integral (node_in region c.node.inside.id c.node.inside.bound) c.args.col c.args.at) (sym c.self.view_is)
    (subst (λ n. CanSplit c.args.self.now.integral n c.args.col c.args.at) (sym node_is) halves.can) in
    let low_is = low_after ∙ sym (ap (λ n. region_in (low_node n c.args.col c.args.at)) node_is) in
    let high_is = high_after ∙ sym (ap (λ n. region_in (high_node n c.args.col c.args.at)) node_is) in
    let room = c.in_ok-make_room.ensures.room in (
      subst (λ l. IsInOrder c.part-low_place.new.kept.slots c.push-2.new.self.nodes l (c.self.inside.ids + 2) (c.self.inside.in_work - 1)) (sym c.make_room.ensures.parked) (part_order c.self.inside.root c.self.inside.kept.slots c.part-low_place.new.kept.slots c.node.inside.place c.node.inside.notes.items c.part-low_place.result.0 c.part-low_place.result.1 low_change high_change c.self.inside.queue.nodes c.self.inside.parked.items c.self.inside.ids c.self.inside.in_work base.raw c.self.invariant.0 base.found parted c.node.inside.bound c.push.new.self.nodes c.push-2.new.self.nodes first second),
      room_split _ _ _ _ _ _ _ _ _ _ _ _ some one two room.1 c.push.ensures.room c.push-2.ensures.room room.2 room.3 c.push_reserved.ensures.len c.push_reserved.ensures.capacity,
      subst (IsTracked (node_in c.self.inside.root 0 c.self.inside.root_bound) c.self.inside.whole.items c.part-low_place.new.kept.slots (c.self.inside.ids + 2)) (sym log)
          (tracked_split c.self.inside.root_bound c.self.inside.whole.items c.self.inside.root c.self.inside.kept.slots c.part-low_place.new.kept.slots c.node.inside.place c.node.inside.notes.items c.part-low_place.result.0 c.part-low_place.result.1 low_change high_change c.self.inside.queue.nodes c.self.inside.parked.items c.self.inside.ids c.self.inside.in_work base.raw c.self.invariant.0 base.found parted (map entry_of c.self.inside.log.items) c.self.invariant.2 c.args.col c.args.at c.node.inside.id c.node.inside.bound number can low_is high_is),
      walked_split c.self.inside.root c.self.inside.kept.slots c.part-low_place.new.kept.slots c.node.inside.place c.node.inside.notes.items c.part-low_place.result.0 c.part-low_place.result.1 low_change high_change c.self.inside.queue.nodes c.self.inside.parked.items c.self.inside.ids c.self.inside.in_work base.raw c.self.invariant.0 base.found parted c.self.inside.walk c.self.invariant.3,
    )

pub returns : goal.returns
returns c =
    let base = unfilled c.self.inside.root.choices (get_or (bases c.self.inside.kept.slots) c.node.inside.place None) c.requires.taken.base (ap (λ (t : Nodes). base_at t c.node.inside.place) c.self.view_is ∙ ap (λ (x : TakenNode). base_at c.args.self.now x.place) c.node.view_is ∙ c.requires.taken.found) in
    let at_is : to_z w128 (of_z w128 c.args.at) ≡ c.args.at = to_z-of_z c.ranges.at in
    let parting : IsParting c.args.self.now c.args.node.now c.args.col c.args.at c.in_ok-parting.parting = subst (λ z. IsParting c.args.self.now c.args.node.now c.args.col z c.in_ok-parting.parting) at_is (c.in_ok-parting.ensures c.args.node.now c.requires.work) in
    let halves = parting.halves in
    let low_change = half_change (low_part c.in_ok-parting.parting) c.args.col c.args.at in
    let high_change = half_change (high_part c.in_ok-parting.parting) c.args.col c.args.at in
    let notes : c.in_ok-notes.notes.items ≡ c.node.inside.notes.items = c.in_ok-notes.ensures.items_if_clones_equal
    (λ x y e. e) ∙ c.as_slice.ensures.value in
    let low = c.new_kept-low_kept.ensures ∙ ap (λ o. open_slot c.self.inside.ids (Some o)) (c.half-low_origin.ensures ∙ ap (λ z. (let o : Origin = record { parent = c.node.inside.place; change = half_change (low_part c.in_ok-parting.parting) c.args.col z } in o)) at_is) in
    let high = c.new_kept-high_kept.ensures ∙ ap (λ o. open_slot (c.self.inside.ids + 1) (Some o)) (c.half-high_origin.ensures ∙ ap (λ z. (let o : Origin = record { parent = c.node.inside.place; change = half_change (high_part c.in_ok-parting.parting) c.args.col z } in o)) at_is) in
    let parted =
    subst (λ l. IsParted c.self.inside.kept.slots c.part-low_place.new.kept.slots c.node.inside.place c.node.inside.notes.items l (open_slot (c.self.inside.ids + 1) (Some (let o : Origin = record { parent = c.node.inside.place; change = high_change } in o))) c.part-low_place.result.0 c.part-low_place.result.1) low
    (subst (λ l. IsParted c.self.inside.kept.slots c.part-low_place.new.kept.slots c.node.inside.place c.node.inside.notes.items c.new_kept-low_kept.result l c.part-low_place.result.0 c.part-low_place.result.1) high
    (subst (λ l. IsParted c.self.inside.kept.slots c.part-low_place.new.kept.slots c.node.inside.place l c.new_kept-low_kept.result c.new_kept-high_kept.result c.part-low_place.result.0 c.part-low_place.result.1) notes
    (subst (λ l. IsParted l c.part-low_place.new.kept.slots c.node.inside.place c.in_ok-notes.notes.items c.new_kept-low_kept.result c.new_kept-high_kept.result c.part-low_place.result.0 c.part-low_place.result.1) c.make_room.ensures.kept c.part-low_place.ensures.slots))) in
    let first = subst (λ e. IsPermutation (e ∷ c.self.inside.queue.nodes) c.push.new.self.nodes) (c.open_node.ensures ∙ ap (λ (x : TakenNode). (let e : OpenNode = record { bound = x.bound; id = c.self.inside.ids + 1; place = c.part-low_place.result.1 } in e)) (sym c.node.view_is))
    (subst (λ l. IsPermutation (c.open_node.result ∷ l) c.push.new.self.nodes) c.make_room.ensures.queue c.push.ensures.nodes) in
    let second = subst (λ e. IsPermutation (e ∷ c.push.new.self.nodes) c.push-2.new.self.nodes) (c.open_node-2.ensures ∙ ap (λ (x : TakenNode). (let e : OpenNode = record { bound = x.bound; id = c.self.inside.ids; place = c.part-low_place.result.0 } in e)) (sym c.node.view_is)) c.push-2.ensures.nodes in
    let region = after c.self.inside.root (noted c.node.inside.notes.items ++ base.raw.changes) in
    let region_is : region ≡ region_of c.args.self.now c.args.node.now =
    after_base c.self.inside.root c.node.inside.notes.items (get_or (bases c.self.inside.kept.slots) c.node.inside.place None) base.raw base.found
    ∙ ap (λ (t : Nodes). region_of t (let x : TakenNode = record { number = c.node.inside.id; bound = c.node.inside.bound; place = c.node.inside.place; notes = c.node.inside.notes.items } in x)) c.self.view_is
    ∙ ap (λ (x : TakenNode). region_of c.args.self.now x) c.node.view_is in
    let low_after = ap (λ r. tightened r (filled c.self.inside.root.choices low_change)) region_is ∙ ap (λ (t : Nodes). tightened (region_of c.args.self.now c.args.node.now) (filled t.root.choices low_change)) c.self.view_is ∙ halves.low_is in
    let high_after = ap (λ r. tightened r (filled c.self.inside.root.choices high_change)) region_is ∙ ap (λ (t : Nodes). tightened (region_of c.args.self.now c.args.node.now) (filled t.root.choices high_change)) c.self.view_is ∙ halves.high_is in
    let nodes = part_nodes c.self.inside.root c.self.inside.kept.slots c.part-low_place.new.kept.slots c.node.inside.place c.node.inside.notes.items c.part-low_place.result.0 c.part-low_place.result.1 low_change high_change c.self.inside.queue.nodes c.self.inside.parked.items c.self.inside.ids c.self.inside.in_work base.raw c.self.invariant.0 base.found parted c.node.inside.bound c.push.new.self.nodes c.push-2.new.self.nodes first second in
    let parked = ap (nodes_at c.self.inside.root c.part-low_place.new.kept.slots) c.make_room.ensures.parked ∙ part_parked c.self.inside.root c.self.inside.kept.slots c.part-low_place.new.kept.slots c.node.inside.place c.node.inside.notes.items c.part-low_place.result.0 c.part-low_place.result.1 low_change high_change c.self.inside.queue.nodes c.self.inside.parked.items c.self.inside.ids c.self.inside.in_work base.raw c.self.invariant.0 base.found parted c.node.inside.bound c.push.new.self.nodes c.push-2.new.self.nodes first second in
    let gone = part_gone c.self.inside.root c.self.inside.kept.slots c.part-low_place.new.kept.slots c.node.inside.place c.node.inside.notes.items c.part-low_place.result.0 c.part-low_place.result.1 low_change high_change c.self.inside.queue.nodes c.self.inside.parked.items c.self.inside.ids c.self.inside.in_work base.raw c.self.invariant.0 base.found parted c.node.inside.bound c.push.new.self.nodes c.push-2.new.self.nodes first second in
    let others = part_others c.self.inside.root c.self.inside.kept.slots c.part-low_place.new.kept.slots c.node.inside.place c.node.inside.notes.items c.part-low_place.result.0 c.part-low_place.result.1 low_change high_change c.self.inside.queue.nodes c.self.inside.parked.items c.self.inside.ids c.self.inside.in_work base.raw c.self.invariant.0 base.found parted c.node.inside.bound c.push.new.self.nodes c.push-2.new.self.nodes first second in
    let entry = ap (λ z. (let x : Entry = record { node = c.node.inside.id; bound = c.node.inside.bound; end = Split c.args.col z c.self.inside.ids (c.self.inside.ids + 1) } in x)) at_is
    ∙ ap (λ (n : TakenNode). (let x : Entry = record { node = n.number; bound = n.bound; end = Split c.args.col c.args.at c.self.inside.ids (c.self.inside.ids + 1) } in x)) c.node.view_is in
    let logged : Logged = record { id = c.node.inside.id; bound = c.node.inside.bound; end = LoggedSplit c.args.col (to_z w128 (of_z w128 c.args.at)) c.self.inside.ids (c.self.inside.ids + 1) } in
    let log = ap (λ l. map entry_of l) (c.push_reserved.ensures.items ∙ ap (λ l. l ++ logged ∷ []) c.make_room.ensures.log) ∙ map-append entry_of c.self.inside.log.items (logged ∷ []) ∙ ap (λ e. map entry_of c.self.inside.log.items ++ e ∷ []) entry in
    let low_half = region_in (low_node (shown c.args.self.now c.args.node.now) c.args.col c.args.at) in
    let high_half = region_in (high_node (shown c.args.self.now c.args.node.now) c.args.col c.args.at) in
    let now = nodes_at c.self.inside.root c.part-low_place.new.kept.slots c.push-2.new.self.nodes in
    let place : c.node.inside.place ≡ c.args.node.now.place = ap (λ (x : TakenNode). x.place) c.node.view_is in
    record {
      low_is = ap (λ (t : Nodes). t.ids) c.self.view_is;
      high_is = ap (λ (t : Nodes). t.ids + 1) c.self.view_is;
      near = halves.near;
      hold = halves_hold (shown c.args.self.now c.args.node.now) c.args.col c.args.at;
      can = halves.can;
      nodes =
          subst (λ (t : Nodes). IsPermutation (node_in low_half c.self.inside.ids c.args.node.now.bound ∷ node_in high_half (c.self.inside.ids + 1) c.args.node.now.bound ∷ t.open_) now) c.self.view_is
          (subst (λ (n : TakenNode). IsPermutation (node_in low_half c.self.inside.ids n.bound ∷ node_in high_half (c.self.inside.ids + 1) n.bound ∷ nodes_at c.self.inside.root c.self.inside.kept.slots c.self.inside.queue.nodes) now) c.node.view_is
          (subst (λ r. IsPermutation (node_in r c.self.inside.ids c.node.inside.bound ∷ node_in high_half (c.self.inside.ids + 1) c.node.inside.bound ∷ nodes_at c.self.inside.root c.self.inside.kept.slots c.self.inside.queue.nodes) now) low_after
          (subst (λ r. IsPermutation (node_in (tightened region (filled c.self.inside.root.choices low_change)) c.self.inside.ids c.node.inside.bound ∷ node_in r (c.self.inside.ids + 1) c.node.inside.bound ∷ nodes_at c.self.inside.root c.self.inside.kept.slots c.self.inside.queue.nodes) now) high_after nodes)));
      taken = record {
        gone = subst (λ k. filled_base c.self.inside.root.choices
            (get_or (bases c.part-low_place.new.kept.slots) k None) ≡ None) place
            (ap (filled_base c.self.inside.root.choices) gone);
        others = λ k d. ap (filled_base c.self.inside.root.choices) (others k (λ e. d (e ∙ place)))
            ∙ ap (λ (t : Nodes). base_at t k) c.self.view_is;
      };
      rest =
          nodes_equal _ _ _ _ _ _ _ _ _ _ _ refl parked log
          ∙ ap (λ (t : Nodes). (let x : Nodes = record {
            root = t.root;
            integral = t.integral;
            open_ = now;
            parked = t.parked;
            taken = bases c.part-low_place.new.kept.slots;
            ids = t.ids + 2;
            log = t.log ++ (let e : Entry = record {
              node = c.args.node.now.number;
              bound = c.args.node.now.bound;
              end = Split c.args.col c.args.at
                  c.self.inside.ids (c.self.inside.ids + 1);
            } in e) ∷ [];
            work = t.work;
          } in x)) c.self.view_is;
    }

pub parting-requires-clause-column : goal.parting-requires-clause-column
parting-requires-clause-column c = c.requires.column

pub parting-requires-clause-wholes : goal.parting-requires-clause-wholes
parting-requires-clause-wholes c = subst (λ (r : Region). AllHaveWholes c.args.self.now.integral r.box)
    (sym c.requires.work) c.requires.wholes

pub invariant_of-self : goal.invariant_of-self
invariant_of-self c = (
  order_same _ _ _ _ _ _ _ _ c.make_room.ensures.kept c.make_room.ensures.queue c.make_room.ensures.parked
      c.self.invariant.0,
  room_grown _ _ _ _ _ _ _ _ _ c.self.invariant.1 (ap length c.make_room.ensures.queue) c.make_room.ensures.grows.0
      c.make_room.ensures.grows.1 c.make_room.ensures.grows.2,
  subst (λ s. IsTracked (node_in c.self.inside.root 0 c.self.inside.root_bound) c.self.inside.whole.items s
      c.self.inside.ids (entries_of c.make_room.new.log.items)) (sym c.make_room.ensures.kept)
      (subst (λ l. IsTracked (node_in c.self.inside.root 0 c.self.inside.root_bound) c.self.inside.whole.items
      c.self.inside.kept.slots c.self.inside.ids (entries_of l)) (sym c.make_room.ensures.log) c.self.invariant.2),
  subst (λ s. IsWalked c.self.inside.root s c.self.inside.ids c.self.inside.walk) (sym c.make_room.ensures.kept)
      c.self.invariant.3,
)

pub part-low_place-requires-clause-room : goal.part-low_place-requires-clause-room
part-low_place-requires-clause-room c = c.in_ok-make_room.ensures.room.0

pub push-requires : goal.push-requires
push-requires c = room_some c.self.inside.in_work c.make_room.new.queue.spare c.in_ok-make_room.ensures.room.1

pub overflow_add-high : goal.overflow_add-high
overflow_add-high c = omega (arith, ap (λ (t : Nodes). t.ids) c.self.view_is, c.requires.few)

pub overflow_add-self : goal.overflow_add-self
overflow_add-self c = omega (arith, ap (λ (t : Nodes). t.ids) c.self.view_is, c.requires.few)

pub push_reserved-requires : goal.push_reserved-requires
push_reserved-requires c = room_entry _ _ _ _ c.in_ok-make_room.ensures.room.3

pub half-high_origin-requires : goal.half-high_origin-requires
half-high_origin-requires c = (c.in_ok-parting.ensures c.args.node.now c.requires.work).near

pub half-low_origin-requires : goal.half-low_origin-requires
half-low_origin-requires c = (c.in_ok-parting.ensures c.args.node.now c.requires.work).near

pub same-self-in_err-notes : goal.same-self-in_err-notes
same-self-in_err-notes c = grind (arith, common_steps)

pub same-self : goal.same-self
same-self c = grind (arith, common_steps)

pub returns-in_err-make_room : goal.returns-in_err-make_room
returns-in_err-make_room c =
    let still =
    ap (λ s. (let t : Nodes = record {
      root = node_in c.self.inside.root 0 c.self.inside.root_bound;
      integral = c.self.inside.whole.items;
      open_ = nodes_at c.self.inside.root s c.make_room.new.queue.nodes;
      parked = nodes_at c.self.inside.root s c.make_room.new.parked.items;
      taken = bases s;
      ids = c.self.inside.ids;
      log = entries_of c.make_room.new.log.items;
      work = region_in_work c.self.inside.walk.domain;
    } in t)) c.make_room.ensures.kept
    ∙ nodes_equal _ _ _ _ _ _ _ _ _ _ _
    (ap (nodes_at c.self.inside.root c.self.inside.kept.slots) c.make_room.ensures.queue)
    (ap (nodes_at c.self.inside.root c.self.inside.kept.slots) c.make_room.ensures.parked)
    (ap entries_of c.make_room.ensures.log)
    ∙ c.self.view_is in
    fault_told c.from_residual-in_err-make_room.result _ _ _ c.from_residual-in_err-make_room.ensures.1
    (λ y same. (still, subst (IsSplitFault c.args.self.now c.args.node.now c.args.col c.args.at) (sym same) tt))

pub returns-in_err-parting : goal.returns-in_err-parting
returns-in_err-parting c = fault_told c.from_residual.result _ _ _ c.from_residual.ensures.1 (λ y same. (
  refl,
  subst (IsSplitFault c.args.self.now c.args.node.now c.args.col c.args.at) (sym same)
      (subst (λ z. IsSplitFault c.args.self.now c.args.node.now c.args.col z c.in_err-parting.field-0.0)
      (to_z-of_z c.ranges.at)
      (c.in_err-parting.ensures c.args.node.now c.requires.work)),
))

pub returns-in_err-notes : goal.returns-in_err-notes
returns-in_err-notes c = fault_told c.from_residual-in_err-notes.result _ _ _ c.from_residual-in_err-notes.ensures.1
    (λ y same. (refl, subst (IsSplitFault c.args.self.now c.args.node.now c.args.col c.args.at) (sym same) tt))

pub make_room-requires : goal.make_room-requires
make_room-requires c = omega (arith, c.self.invariant.1.parked, c.self.inside.parked.small)
