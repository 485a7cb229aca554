use Rattle.std.specs.Prelude.{ℕ, List, length}
use Rattle.cip_domain.specs.Changes.{Region}
use Rattle.cip_tree.specs.Slots.{Slots}
use Rattle.cip_tree.specs.Walks.{Way, Climbs, StandsAt}
use Rattle.cip_tree.proofs.walks.Walk.descend.Given as goal

-- where it began at a node above, it stands at one from which the places left lead down
pub record StillAbove (root : Region) (slots : Slots) (ids : ℕ) (now : Way) (place : ℕ) (left : List ℕ) : Type 0 where
  pub top : ℕ
  pub stands : StandsAt root slots ids now top
  pub climbs : Climbs slots place left top

-- so far it went down some of the places
abbrev pub DescendedSoFar : Region → Slots → Way → Way → List ℕ → List ℕ → Type 0
DescendedSoFar root slots first now places left =
    (ids place top : ℕ)
    → StandsAt root slots ids first top
    → Climbs slots place places top
    → StillAbove root slots ids now place left

abbrev pub invariant-loop-place : goal.invariant-loop-place
invariant-loop-place l = DescendedSoFar l.root l.kept.slots l.fn.self l.self l.fn.places.items l.places.items

abbrev pub decreases-loop-place : goal.decreases-loop-place
decreases-loop-place l = length l.places.items
