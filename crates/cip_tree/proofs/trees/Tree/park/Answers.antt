use Rattle.cip_tree.specs.Nodes.{node_in}
use Rattle.std.proofs.Common.{◌≡◌, ◌∷◌, ◌++◌, [], ◌-◌, None, map, get_or, sym, ap, ◌∙◌, subst, refl}
use Rattle.std.proofs.lemmas.List.{map-append}
use Rattle.cip_problem.specs.Log.{Entry, Parked}
use Rattle.cip_tree.specs.declared.queue.OpenNode.{OpenNode}
use Rattle.cip_tree.specs.Entries.{entry_of}
use Rattle.cip_tree.specs.Nodes.{filled_base, Nodes, TakenNode, base_at, shown}
use Rattle.cip_tree.specs.Inside.{bases, nodes_at, IsInOrder}
use Rattle.cip_tree.proofs.Orders.{parked_is_not, taken_some, aside_order, aside_some, aside_open, aside_parked, aside_gone, aside_others, nodes_equal}
use Rattle.cip_tree.specs.Tracked.{IsTracked}
use Rattle.cip_tree.proofs.Tracking.{tracked_aside}
use Rattle.cip_tree.proofs.Rooms.{room_logged, room_parked, room_aside}
use Rattle.cip_tree.proofs.WalkedOn.{walked_stage}
use Rattle.cip_tree.proofs.Filled.{after_base, unfilled}
use Rattle.cip_tree.proofs.Paths.{in_work}
use Rattle.cip_tree.proofs.trees.Tree.park.Goals as goal

pub push_reserved-requires : goal.push_reserved-requires
push_reserved-requires c =
    let base = unfilled c.self.inside.root.choices (get_or (bases c.self.inside.kept.slots) c.node.inside.place None) c.requires.base (ap (λ (t : Nodes). base_at t c.node.inside.place) c.self.view_is ∙ ap (λ (x : TakenNode). base_at c.args.self.now x.place) c.node.view_is ∙ c.requires.found) in
    let some = taken_some c.self.inside.root c.self.inside.kept.slots c.self.inside.kept.slots c.node.inside.place c.self.inside.queue.nodes c.self.inside.parked.items c.self.inside.ids c.self.inside.in_work base.raw c.self.invariant.0 base.found in
    room_parked _ _ _ _ _ _ c.self.invariant.1 some

pub invariant_of-self : goal.invariant_of-self
invariant_of-self c =
    let base = unfilled c.self.inside.root.choices (get_or (bases c.self.inside.kept.slots) c.node.inside.place None) c.requires.base (ap (λ (t : Nodes). base_at t c.node.inside.place) c.self.view_is ∙ ap (λ (x : TakenNode). base_at c.args.self.now x.place) c.node.view_is ∙ c.requires.found) in
    let number = base.number ∙ c.requires.same ∙ sym (ap (λ (x : TakenNode). x.number) c.node.view_is) in
    let e : c.bound-2.result ≡ c.node.inside.bound = c.bound-2.ensures ∙ sym (ap (λ (x : TakenNode). x.bound) c.node.view_is) in
    let items = c.push_reserved.ensures.items ∙ ap (λ b. c.self.inside.parked.items ++ (let n : OpenNode = record { bound = b; id = c.node.inside.id; place = c.node.inside.place } in n) ∷ []) e in
    let some = aside_some c.self.inside.root c.self.inside.kept.slots c.restage.new.kept.slots c.node.inside.place _ _ c.self.inside.queue.nodes c.self.inside.queue.nodes c.self.inside.parked.items c.self.inside.ids c.self.inside.in_work c.node.inside.id c.node.inside.bound base.raw c.self.invariant.0 base.found number c.restage.ensures.slots in
    let f : c.bound.result ≡ c.node.inside.bound = c.bound.ensures ∙ sym (ap (λ (x : TakenNode). x.bound) c.node.view_is) in
    let log = ap (λ l. map entry_of l) c.push_reserved-2.ensures.items ∙ map-append entry_of c.self.inside.log.items _ ∙ ap (λ b. map entry_of c.self.inside.log.items ++ (let x : Entry = record { node = c.node.inside.id; bound = b; end = Parked } in x) ∷ []) f in (
      subst (λ l. IsInOrder c.restage.new.kept.slots c.self.inside.queue.nodes l c.self.inside.ids (c.self.inside.in_work - 1)) (sym items) (aside_order c.self.inside.root c.self.inside.kept.slots c.restage.new.kept.slots c.node.inside.place _ _ c.self.inside.queue.nodes c.self.inside.queue.nodes c.self.inside.parked.items c.self.inside.ids c.self.inside.in_work c.node.inside.id c.node.inside.bound base.raw c.self.invariant.0 base.found number c.restage.ensures.slots),
      room_aside _ _ _ _ _ _ _ _ _ _ _ c.self.invariant.1 some c.push_reserved.ensures.len c.push_reserved.ensures.capacity c.push_reserved-2.ensures.len c.push_reserved-2.ensures.capacity,
      subst (IsTracked (node_in c.self.inside.root 0 c.self.inside.root_bound) c.self.inside.whole.items c.restage.new.kept.slots c.self.inside.ids) (sym log)
          (tracked_aside (node_in c.self.inside.root 0 c.self.inside.root_bound) c.self.inside.whole.items c.self.inside.kept.slots c.restage.new.kept.slots c.self.inside.ids (map entry_of c.self.inside.log.items) c.self.invariant.2 c.self.invariant.0.kept c.node.inside.place base.raw base.found _ _ c.node.inside.id c.node.inside.bound number c.restage.ensures.slots),
      walked_stage c.self.inside.root c.self.inside.kept.slots c.restage.new.kept.slots c.self.inside.ids c.self.inside.walk c.self.invariant.0.kept c.self.invariant.3 c.node.inside.place base.raw base.found _ _ _ parked_is_not c.restage.ensures.slots,
    )

pub returns-clause-taken : goal.returns-clause-taken
returns-clause-taken c =
    let base = unfilled c.self.inside.root.choices (get_or (bases c.self.inside.kept.slots) c.node.inside.place None) c.requires.base (ap (λ (t : Nodes). base_at t c.node.inside.place) c.self.view_is ∙ ap (λ (x : TakenNode). base_at c.args.self.now x.place) c.node.view_is ∙ c.requires.found) in
    let number = base.number ∙ c.requires.same ∙ sym (ap (λ (x : TakenNode). x.number) c.node.view_is) in
    let gone = aside_gone c.self.inside.root c.self.inside.kept.slots c.restage.new.kept.slots c.node.inside.place _ _ c.self.inside.queue.nodes c.self.inside.queue.nodes c.self.inside.parked.items c.self.inside.ids c.self.inside.in_work c.node.inside.id c.node.inside.bound base.raw c.self.invariant.0 base.found number c.restage.ensures.slots in
    let others = aside_others c.self.inside.root c.self.inside.kept.slots c.restage.new.kept.slots c.node.inside.place _ _ c.self.inside.queue.nodes c.self.inside.queue.nodes c.self.inside.parked.items c.self.inside.ids c.self.inside.in_work c.node.inside.id c.node.inside.bound base.raw c.self.invariant.0 base.found number c.restage.ensures.slots in
    let place : c.node.inside.place ≡ c.args.node.place = ap (λ (x : TakenNode). x.place) c.node.view_is in
    record {
      gone = subst (λ k. filled_base c.self.inside.root.choices (get_or (bases c.restage.new.kept.slots) k None) ≡ None)
          place (ap (filled_base c.self.inside.root.choices) gone);
      others = λ k d. ap (filled_base c.self.inside.root.choices) (others k (λ e. d (e ∙ place)))
          ∙ ap (λ (t : Nodes). base_at t k) c.self.view_is;
    }

pub returns-clause-rest : goal.returns-clause-rest
returns-clause-rest c =
    let base = unfilled c.self.inside.root.choices (get_or (bases c.self.inside.kept.slots) c.node.inside.place None) c.requires.base (ap (λ (t : Nodes). base_at t c.node.inside.place) c.self.view_is ∙ ap (λ (x : TakenNode). base_at c.args.self.now x.place) c.node.view_is ∙ c.requires.found) in
    let number = base.number ∙ c.requires.same ∙ sym (ap (λ (x : TakenNode). x.number) c.node.view_is) in
    let e : c.bound-2.result ≡ c.node.inside.bound = c.bound-2.ensures ∙ sym (ap (λ (x : TakenNode). x.bound) c.node.view_is) in
    let items = c.push_reserved.ensures.items ∙ ap (λ b. c.self.inside.parked.items ++ (let n : OpenNode = record { bound = b; id = c.node.inside.id; place = c.node.inside.place } in n) ∷ []) e in
    let f : c.bound.result ≡ c.node.inside.bound = c.bound.ensures ∙ sym (ap (λ (x : TakenNode). x.bound) c.node.view_is) in
    let log = ap (λ l. map entry_of l) c.push_reserved-2.ensures.items ∙ map-append entry_of c.self.inside.log.items _ ∙ ap (λ b. map entry_of c.self.inside.log.items ++ (let x : Entry = record { node = c.node.inside.id; bound = b; end = Parked } in x) ∷ []) f in
    let parked = ap (nodes_at c.self.inside.root c.restage.new.kept.slots) items ∙ aside_parked c.self.inside.root c.self.inside.kept.slots c.restage.new.kept.slots c.node.inside.place _ _ c.self.inside.queue.nodes c.self.inside.queue.nodes c.self.inside.parked.items c.self.inside.ids c.self.inside.in_work c.node.inside.id c.node.inside.bound base.raw c.self.invariant.0 base.found number c.restage.ensures.slots
    ∙ ap (λ r. nodes_at c.self.inside.root c.self.inside.kept.slots c.self.inside.parked.items ++ (node_in r c.node.inside.id c.node.inside.bound) ∷ []) (after_base c.self.inside.root c.node.inside.notes.items (get_or (bases c.self.inside.kept.slots) c.node.inside.place None) base.raw base.found) in
    nodes_equal _ _ _ _ _ _ _ _ _ _ _
    (aside_open c.self.inside.root c.self.inside.kept.slots c.restage.new.kept.slots c.node.inside.place _ _
    c.self.inside.queue.nodes c.self.inside.queue.nodes c.self.inside.parked.items c.self.inside.ids
    c.self.inside.in_work c.node.inside.id c.node.inside.bound base.raw c.self.invariant.0 base.found number
    c.restage.ensures.slots) parked log
    ∙ ap (λ (t : Nodes). (let x : Nodes = record t {
      parked = t.parked ++ shown t
          (let n : TakenNode = record {
            number = c.node.inside.id;
            bound = c.node.inside.bound;
            place = c.node.inside.place;
            notes = c.node.inside.notes.items;
          } in n) ∷ [];
      taken = bases c.restage.new.kept.slots;
      log = t.log ++
          (let e : Entry = record { node = c.node.inside.id; bound = c.node.inside.bound; end = Parked } in e) ∷ [];
    }
    in x)) c.self.view_is
    ∙ ap (λ (n : TakenNode). (let x : Nodes = record c.args.self.now {
      parked = c.args.self.now.parked ++ shown c.args.self.now n ∷ [];
      taken = bases c.restage.new.kept.slots;
      log = c.args.self.now.log ++ (let e : Entry = record { node = n.number; bound = n.bound; end = Parked } in e) ∷
          [];
    } in x)) c.node.view_is

pub restage-requires : goal.restage-requires
restage-requires c =
    let base = unfilled c.self.inside.root.choices (get_or (bases c.self.inside.kept.slots) c.node.inside.place None)
    c.requires.base (ap (λ (t : Nodes). base_at t c.node.inside.place) c.self.view_is
    ∙ ap (λ (x : TakenNode). base_at c.args.self.now x.place) c.node.view_is ∙ c.requires.found) in
    rw ((in_work c.self.inside.kept.slots c.node.inside.place base.raw base.found).found) refl

pub overflow_sub-self : goal.overflow_sub-self
overflow_sub-self c =
    let base = unfilled c.self.inside.root.choices (get_or (bases c.self.inside.kept.slots) c.node.inside.place None)
    c.requires.base (ap (λ (t : Nodes). base_at t c.node.inside.place) c.self.view_is
    ∙ ap (λ (x : TakenNode). base_at c.args.self.now x.place) c.node.view_is ∙ c.requires.found) in
    taken_some c.self.inside.root c.self.inside.kept.slots c.self.inside.kept.slots c.node.inside.place
    c.self.inside.queue.nodes c.self.inside.parked.items c.self.inside.ids c.self.inside.in_work base.raw
    c.self.invariant.0 base.found

pub push_reserved-requires-2 : goal.push_reserved-requires-2
push_reserved-requires-2 c =
    let base = unfilled c.self.inside.root.choices (get_or (bases c.self.inside.kept.slots) c.node.inside.place None)
    c.requires.base (ap (λ (t : Nodes). base_at t c.node.inside.place) c.self.view_is
    ∙ ap (λ (x : TakenNode). base_at c.args.self.now x.place) c.node.view_is ∙ c.requires.found) in
    room_logged _ _ _ _ _ _ c.self.invariant.1 (taken_some c.self.inside.root c.self.inside.kept.slots
    c.self.inside.kept.slots c.node.inside.place c.self.inside.queue.nodes c.self.inside.parked.items
    c.self.inside.ids c.self.inside.in_work base.raw c.self.invariant.0 base.found)
