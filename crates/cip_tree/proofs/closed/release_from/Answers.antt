use Rattle.std.proofs.lemmas.Grind.{common_steps}
use Rattle.std.proofs.Common.{◌≡◌, ◌∷◌, [], false, sym, ◌∙◌, subst, arith, refl}
use Rattle.slab.specs.Slab.{Slab}
use Rattle.cip_tree.specs.Slots.{Slot, AreSoundSlots}
use Rattle.cip_tree.specs.Queue.{is_below}
use Rattle.cip_tree.specs.Freed.{dearer, AreReleased}
use Rattle.cip_tree.proofs.Freeing.{none_released, one_released, dearer_one, dearer_none, open_is_idle, next_stands, next_released}
use Rattle.cip_tree.proofs.closed.release_from.Goals as goal
use Rattle.cip_tree.proofs.closed.release_from.Goals.{then-not-stays, else-not-stays}

pub release-requires-clause-idle : goal.release-requires-clause-idle
release-requires-clause-idle c =
    open_is_idle c.loop-node.kept.slots c.node-item.result c.loop-node.invariant.kept
    (next_stands c.args.kept.now.slots c.loop-node.kept.slots c.args.cost c.args.nodes.now c.loop-node.node-index c.node-item.result c.loop-node-test.true c.node-item.is c.requires.waiting c.requires.once c.loop-node.invariant.slots)

pub loop-node-preserved : goal.loop-node-preserved
loop-node-preserved c =
    let node = c.node-item.result in
    let stands = next_stands c.args.kept.now.slots c.loop-node.kept.slots c.args.cost c.args.nodes.now c.loop-node.node-index node c.loop-node-test.true c.node-item.is c.requires.waiting c.requires.once c.loop-node.invariant.slots in
    let step : AreReleased c.loop-node.kept.slots c.if-not-stays.kept.slots (dearer c.args.cost (node ∷ [])) × (AreSoundSlots c.if-not-stays.kept.slots × (c.if-not-stays.kept.capacity ≡ c.loop-node.kept.capacity)) =
    elim c.if-not-stays.branch [
      | then-not-stays w ↦ subst (λ (k : Slab Slot). AreReleased c.loop-node.kept.slots k.slots
          (dearer c.args.cost (node ∷ [])) × (AreSoundSlots k.slots × (k.capacity ≡ c.loop-node.kept.capacity)))
          (sym w.kept-is) (
            (let dear : is_below c.args.cost node ≡ false = sym c.stays.ensures ∙ w.if-not-stays.true in
                dearer_one c.args.cost node c.loop-node.kept.slots w.release.new.kept.slots dear
                (one_released c.loop-node.kept.slots w.release.new.kept.slots node w.release.ensures.slots w.release.ensures.kept stands)),
            (w.release.ensures.kept, w.release.ensures.capacity),
          )
      | else-not-stays w ↦ subst (λ (k : Slab Slot). AreReleased c.loop-node.kept.slots k.slots
          (dearer c.args.cost (node ∷ [])) × (AreSoundSlots k.slots × (k.capacity ≡ c.loop-node.kept.capacity)))
          (sym w.kept-is) (
            dearer_none c.args.cost node c.loop-node.kept.slots (sym c.stays.ensures ∙ w.if-not-stays.false),
            (c.loop-node.invariant.kept, refl),
          )
    ] in
    record {
      slots = next_released c.args.kept.now.slots c.loop-node.kept.slots c.if-not-stays.kept.slots c.args.cost c.args.nodes.now c.loop-node.node-index node c.loop-node-test.true c.node-item.is c.loop-node.invariant.slots step.0;
      kept = step.1.0;
      capacity = step.1.1 ∙ c.loop-node.invariant.capacity;
    }

pub returns-clause-slots : goal.returns-clause-slots
returns-clause-slots c = grind (arith, common_steps)

pub offset_bounds-nodes-node-index : goal.offset_bounds-nodes-node-index
offset_bounds-nodes-node-index c = grind (arith, common_steps)

pub returns-clause-capacity : goal.returns-clause-capacity
returns-clause-capacity c = grind (arith, common_steps)

pub loop-node-init : goal.loop-node-init
loop-node-init c = record { slots = none_released c.args.kept.now.slots; kept = c.requires.kept; capacity = refl }
