-- What is let go with nodes that are closed by their bounds.
use Rattle.std.specs.Prelude.{◌≡◌, ◌≢◌, ℕ, ◌+◌, Bool, false, not, List, length, count_by, filter, Some, All}
use Rattle.cip_rational.specs.Rational.{ℚ}
use Rattle.cip_tree.specs.declared.kept.Stage.{Stage}
use Rattle.cip_tree.specs.declared.kept.Stage.TheVariants.{Open, Ended}
use Rattle.cip_tree.specs.declared.queue.OpenNode.{OpenNode}
use Rattle.cip_tree.specs.Queue.{is_below}
use Rattle.cip_tree.specs.Slots.{Slot, Slots, slot_at}
use Rattle.cip_tree.specs.Inside.{is_waiting, has_stage}

-- the nodes whose bound is at least a cost
abbrev pub dearer : ℚ → List OpenNode → List OpenNode
dearer cost nodes = filter (λ node. not (is_below cost node)) nodes

-- none of the nodes is kept at a place
abbrev pub AreElsewhere : ℕ → List OpenNode → Type 0
AreElsewhere place nodes = All (λ node. node.place ≢ place) nodes

-- open nodes are let go, and perhaps nodes that ended with them; what is left is as it was, but for counts
pub record AreReleased (old new : Slots) (gone : List OpenNode) : Type 0 where
  pub live : (place : ℕ) (slot : Slot)
      → AreElsewhere place gone → slot_at old place ≡ Some slot → slot.stage ≢ Ended → slot_at new place ≡ Some slot
  pub left : (place : ℕ) (slot : Slot)
      → slot_at new place ≡ Some slot
      → AreElsewhere place gone × ((below : ℕ) × (slot_at old place ≡ Some (record slot { below = below })))
  pub waiting : count_by (has_stage is_waiting) new + length gone ≡ count_by (has_stage is_waiting) old
  pub others : (test : Stage → Bool)
      → test Open ≡ false → test Ended ≡ false → count_by (has_stage test) new ≡ count_by (has_stage test) old
