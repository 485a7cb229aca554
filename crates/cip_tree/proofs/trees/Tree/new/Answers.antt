use Rattle.std.proofs.lemmas.Grind.{common_steps}
use Rattle.cip_domain.specs.Domain.{region_of}
use Rattle.cip_tree.specs.Nodes.{filled_base, node_in}
use Rattle.std.proofs.Common.{◌∷◌, [], List, ap, sym, ◌∙◌, subst, refl, length, arith}
use Rattle.cip_tree.specs.declared.queue.OpenNode.{OpenNode}
use Rattle.cip_tree.specs.Inside.{IsInOrder, nodes_at}
use Rattle.cip_tree.proofs.Starts.{root_order, root_nodes, root_bases}
use Rattle.cip_tree.specs.Entries.{entries_of}
use Rattle.cip_tree.specs.Tracked.{IsTracked}
use Rattle.cip_tree.proofs.Tracking.{tracked_root}
use Rattle.cip_tree.specs.Walks.{Way, IsWalked}
use Rattle.cip_tree.proofs.Rooms.{room_root}
use Rattle.cip_tree.proofs.WalkedOn.{walked_new}
use Rattle.cip_tree.proofs.trees.Tree.new.Goals as goal

pub invariant_of-result : goal.invariant_of-result
invariant_of-result c =
    let node : OpenNode = record { bound = c.args.bound; id = 0; place = c.in-Ok.parts.rooted.place } in
    let one = ap (λ (l : List OpenNode). length l) c.in-Ok.ensures.started.queue in
    let order = root_order c.in-Ok.parts.rooted.kept.slots c.in-Ok.parts.rooted.place c.in-Ok.ensures.started.kept c.in-Ok.ensures.started.others node refl refl in (
      subst (λ q. IsInOrder c.in-Ok.parts.rooted.kept.slots q c.in-Ok.parts.parked.items 1 0) (sym c.in-Ok.ensures.started.queue)
          (subst (λ p. IsInOrder c.in-Ok.parts.rooted.kept.slots (node ∷ []) p 1 0) (sym c.in-Ok.ensures.started.parked) order),
      room_root _ _ _ _ one c.in-Ok.ensures.started.parked_room c.in-Ok.ensures.started.log_room,
      subst (λ l. IsTracked (node_in c.args.root 0 c.args.bound) c.in-Ok.parts.whole.items c.in-Ok.parts.rooted.kept.slots 1 (entries_of l)) (sym c.in-Ok.ensures.started.log)
          (tracked_root c.args.root c.in-Ok.parts.whole.items c.args.bound c.in-Ok.parts.rooted.kept.slots c.in-Ok.parts.rooted.place c.in-Ok.ensures.started.kept c.in-Ok.ensures.started.others),
      subst (IsWalked c.args.root c.in-Ok.parts.rooted.kept.slots 1) (sym c.new.ensures) (walked_new c.args.root c.in-Ok.parts.work c.in-Ok.parts.rooted.kept.slots 1 c.in-Ok.ensures.started.work c.requires.past order.given),
    )

pub returns-in-Ok : goal.returns-in-Ok
returns-in-Ok c =
    let node : OpenNode = record { bound = c.args.bound; id = 0; place = c.in-Ok.parts.rooted.place } in
    record {
      open_ = ap (nodes_at c.args.root c.in-Ok.parts.rooted.kept.slots) c.in-Ok.ensures.started.queue ∙ root_nodes c.in-Ok.parts.rooted.kept.slots c.in-Ok.parts.rooted.place c.in-Ok.ensures.started.kept c.in-Ok.ensures.started.others c.args.root node refl;
      root = refl;
      integral_is = c.in-Ok.ensures.whole;
      parked = ap (nodes_at c.args.root c.in-Ok.parts.rooted.kept.slots) c.in-Ok.ensures.started.parked;
      taken = λ k. ap (filled_base c.args.root.choices) (root_bases c.in-Ok.parts.rooted.kept.slots c.in-Ok.parts.rooted.place c.in-Ok.ensures.started.kept c.in-Ok.ensures.started.others k);
      ids = refl;
      log = ap (λ l. entries_of l) c.in-Ok.ensures.started.log;
      work = ap (λ (w : Way). region_of w.domain) c.new.ensures ∙ c.in-Ok.ensures.started.work;
    }

pub same-root : goal.same-root
same-root c = grind (arith, common_steps)

pub returns-in-Err : goal.returns-in-Err
returns-in-Err c = grind (arith, common_steps)
