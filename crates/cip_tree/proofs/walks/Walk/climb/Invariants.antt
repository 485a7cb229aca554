use Rattle.std.proofs.Common.{◌≡◌, Some}
use Rattle.std.specs.Prelude.{ℕ, List}
use Rattle.cip_tree.specs.Slots.{Slot, Slots, slot_at}
use Rattle.cip_tree.specs.Walks.{Way, StaysWalked, Climbs}
use Rattle.cip_tree.proofs.Walking.{number_at}
use Rattle.cip_tree.proofs.walks.Walk.climb.Given as goal

-- so far it climbed from a node to another that is kept, and the region in work is as it was
pub record ClimbedSoFar (slots : Slots) (first now : Way) (place : ℕ) (places : List ℕ) (top : ℕ) : Type 0 where
  pub domain : now.domain ≡ first.domain
  pub walked : StaysWalked slots first now
  pub climbs : Climbs slots place places top
  pub slot : Slot
  pub found : slot_at slots top ≡ Some slot

abbrev pub invariant-loop-places : goal.invariant-loop-places
invariant-loop-places l = ClimbedSoFar l.kept.slots l.fn.self l.self l.fn.place l.places.items l.top

abbrev pub decreases-loop-places : goal.decreases-loop-places
decreases-loop-places l = number_at l.kept.slots l.top
