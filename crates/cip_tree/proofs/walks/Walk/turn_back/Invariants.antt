use Rattle.std.proofs.Common.{◌≡◌}
use Rattle.std.specs.Prelude.{length}
use Rattle.cip_tree.specs.Slots.{Slots}
use Rattle.cip_tree.specs.Walks.{Way, StaysWalked}
use Rattle.cip_tree.proofs.walks.Walk.turn_back.Given as goal

-- the region in work is as it was, and the way is still one
pub record TurnedSoFar (first now : Way) : Type 0 where
  pub domain : now.domain ≡ first.domain
  pub walked : (slots : Slots) → StaysWalked slots first now

abbrev pub invariant-loop-stop : goal.invariant-loop-stop
invariant-loop-stop l = TurnedSoFar l.fn.self l.self

abbrev pub decreases-loop-stop : goal.decreases-loop-stop
decreases-loop-stop l = length l.self.stops
