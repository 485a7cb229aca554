use Rattle.cip_tree.specs.Nodes.{node_in}
use Rattle.std.proofs.Common.{◌≡◌, ◌∷◌, ◌++◌, [], None, map, get_or, sym, ap, ◌∙◌, subst}
use Rattle.std.proofs.lemmas.List.{map-append}
use Rattle.cip_problem.specs.Log.{Entry, Closed}
use Rattle.cip_tree.specs.Entries.{entry_of}
use Rattle.cip_tree.specs.Nodes.{filled_base, Nodes, TakenNode, base_at}
use Rattle.cip_tree.specs.Inside.{bases}
use Rattle.cip_tree.proofs.Orders.{taken_is_idle, taken_some, closed_order, closed_open, closed_parked, released_gone, released_others, nodes_equal}
use Rattle.cip_tree.specs.Tracked.{IsTracked}
use Rattle.cip_tree.proofs.Tracking.{tracked_closed}
use Rattle.cip_tree.proofs.Rooms.{room_logged, room_closed}
use Rattle.cip_tree.proofs.WalkedOn.{walked_closed}
use Rattle.cip_tree.proofs.Filled.{unfilled}
use Rattle.cip_tree.proofs.trees.Tree.close.Goals as goal

pub release-requires-clause-idle : goal.release-requires-clause-idle
release-requires-clause-idle c =
    let base = unfilled c.self.inside.root.choices (get_or (bases c.self.inside.kept.slots) c.node.inside.place None) c.requires.base (ap (λ (t : Nodes). base_at t c.node.inside.place) c.self.view_is ∙ ap (λ (x : TakenNode). base_at c.args.self.now x.place) c.node.view_is ∙ c.requires.found) in
    taken_is_idle c.self.inside.root c.self.inside.kept.slots c.self.inside.kept.slots c.node.inside.place c.self.inside.queue.nodes c.self.inside.parked.items c.self.inside.ids c.self.inside.in_work base.raw c.self.invariant.0 base.found

pub overflow_sub-self : goal.overflow_sub-self
overflow_sub-self c =
    let base = unfilled c.self.inside.root.choices (get_or (bases c.self.inside.kept.slots) c.node.inside.place None) c.requires.base (ap (λ (t : Nodes). base_at t c.node.inside.place) c.self.view_is ∙ ap (λ (x : TakenNode). base_at c.args.self.now x.place) c.node.view_is ∙ c.requires.found) in
    taken_some c.self.inside.root c.self.inside.kept.slots c.self.inside.kept.slots c.node.inside.place c.self.inside.queue.nodes c.self.inside.parked.items c.self.inside.ids c.self.inside.in_work base.raw c.self.invariant.0 base.found

pub push_reserved-requires : goal.push_reserved-requires
push_reserved-requires c =
    let base = unfilled c.self.inside.root.choices (get_or (bases c.self.inside.kept.slots) c.node.inside.place None) c.requires.base (ap (λ (t : Nodes). base_at t c.node.inside.place) c.self.view_is ∙ ap (λ (x : TakenNode). base_at c.args.self.now x.place) c.node.view_is ∙ c.requires.found) in
    let some = taken_some c.self.inside.root c.self.inside.kept.slots c.self.inside.kept.slots c.node.inside.place c.self.inside.queue.nodes c.self.inside.parked.items c.self.inside.ids c.self.inside.in_work base.raw c.self.invariant.0 base.found in
    room_logged _ _ _ _ _ _ c.self.invariant.1 some

pub invariant_of-self : goal.invariant_of-self
invariant_of-self c =
    let base = unfilled c.self.inside.root.choices (get_or (bases c.self.inside.kept.slots) c.node.inside.place None) c.requires.base (ap (λ (t : Nodes). base_at t c.node.inside.place) c.self.view_is ∙ ap (λ (x : TakenNode). base_at c.args.self.now x.place) c.node.view_is ∙ c.requires.found) in
    let some = taken_some c.self.inside.root c.self.inside.kept.slots c.self.inside.kept.slots c.node.inside.place c.self.inside.queue.nodes c.self.inside.parked.items c.self.inside.ids c.self.inside.in_work base.raw c.self.invariant.0 base.found in
    let number = base.number ∙ c.requires.same ∙ sym (ap (λ (x : TakenNode). x.number) c.node.view_is) in
    let log = ap (λ l. map entry_of l) c.push_reserved.ensures.items ∙ map-append entry_of c.self.inside.log.items _ in (
      closed_order c.self.inside.root c.self.inside.kept.slots c.release.new.kept.slots c.node.inside.place c.self.inside.queue.nodes c.self.inside.parked.items c.self.inside.ids c.self.inside.in_work base.raw c.self.invariant.0 base.found c.release.ensures.slots c.release.ensures.kept,
      room_closed _ _ _ _ _ _ _ _ c.self.invariant.1 some c.push_reserved.ensures.len c.push_reserved.ensures.capacity,
      subst (IsTracked (node_in c.self.inside.root 0 c.self.inside.root_bound) c.self.inside.whole.items c.release.new.kept.slots c.self.inside.ids) (sym log)
          (tracked_closed (node_in c.self.inside.root 0 c.self.inside.root_bound) c.self.inside.whole.items c.self.inside.kept.slots c.release.new.kept.slots c.self.inside.ids (map entry_of c.self.inside.log.items) c.self.invariant.2 c.self.invariant.0.kept c.node.inside.place base.raw base.found c.node.inside.id c.node.inside.bound number c.release.ensures.slots c.release.ensures.kept),
      walked_closed c.self.inside.root c.self.inside.kept.slots c.release.new.kept.slots c.self.inside.ids c.self.inside.walk c.self.invariant.0.kept c.self.invariant.3 c.node.inside.place c.release.ensures.slots c.release.ensures.kept,
    )

pub returns-clause-taken : goal.returns-clause-taken
returns-clause-taken c =
    let gone = released_gone c.self.inside.kept.slots c.release.new.kept.slots c.node.inside.place c.release.ensures.slots c.release.ensures.kept in
    let others = released_others c.self.inside.kept.slots c.release.new.kept.slots c.node.inside.place c.release.ensures.slots c.release.ensures.kept in
    let place : c.node.inside.place ≡ c.args.node.place = ap (λ (x : TakenNode). x.place) c.node.view_is in
    record {
      gone = subst (λ k. filled_base c.self.inside.root.choices (get_or (bases c.release.new.kept.slots) k None) ≡ None)
          place (ap (filled_base c.self.inside.root.choices) gone);
      others = λ k d. ap (filled_base c.self.inside.root.choices) (others k (λ e. d (e ∙ place)))
          ∙ ap (λ (t : Nodes). base_at t k) c.self.view_is;
    }

pub returns-clause-rest : goal.returns-clause-rest
returns-clause-rest c =
    let base = unfilled c.self.inside.root.choices (get_or (bases c.self.inside.kept.slots) c.node.inside.place None) c.requires.base (ap (λ (t : Nodes). base_at t c.node.inside.place) c.self.view_is ∙ ap (λ (x : TakenNode). base_at c.args.self.now x.place) c.node.view_is ∙ c.requires.found) in
    let log = ap (λ l. map entry_of l) c.push_reserved.ensures.items ∙ map-append entry_of c.self.inside.log.items _ in
    nodes_equal _ _ _ _ _ _ _ _ _ _ _
    (closed_open c.self.inside.root c.self.inside.kept.slots c.release.new.kept.slots c.node.inside.place
    c.self.inside.queue.nodes c.self.inside.parked.items c.self.inside.ids c.self.inside.in_work base.raw
    c.self.invariant.0 base.found c.release.ensures.slots c.release.ensures.kept)
    (closed_parked c.self.inside.root c.self.inside.kept.slots c.release.new.kept.slots c.node.inside.place
    c.self.inside.queue.nodes c.self.inside.parked.items c.self.inside.ids c.self.inside.in_work base.raw
    c.self.invariant.0 base.found c.release.ensures.slots c.release.ensures.kept) log
    ∙ ap (λ (t : Nodes). (let x : Nodes = record t {
      taken = bases c.release.new.kept.slots;
      log = t.log ++
          (let e : Entry = record { node = c.node.inside.id; bound = c.node.inside.bound; end = Closed } in e) ∷ [];
    }
    in x)) c.self.view_is
    ∙ ap (λ (n : TakenNode). (let x : Nodes = record c.args.self.now {
      taken = bases c.release.new.kept.slots;
      log = c.args.self.now.log ++
          (let e : Entry = record { node = n.number; bound = n.bound; end = Closed } in e) ∷ [];
    } in x)) c.node.view_is
