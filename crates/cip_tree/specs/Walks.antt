-- The region in work, and the way to it from the root.
use Rattle.std.specs.Prelude.{◌≡◌, ℕ, ◌<◌, ◌≤◌, ◌-◌, Bool, true, false, List, [], ◌∷◌, ◌++◌, length, Option, Some, Result, IfOk, All, slice_get, slice_index_or, refl}
use Rattle.std.specs.Coded.{Coded, code_by, coded×, coded_ℕ, coded_list}
use Rattle.cip_rational.specs.Rational.{ℚ}
use Rattle.cip_problem.specs.Box.{IsInBox}
use Rattle.cip_domain.specs.Changes.{Region, Change, narrowed}
use Rattle.cip_domain.specs.Domain.{Domain, domain_code, region_of, region_at}
use Rattle.cip_domain.specs.Narrowing.{ArePlainPast}
use Rattle.cip_tree.specs.declared.walks.Stop.{Stop}
use Rattle.cip_tree.specs.declared.notes.Note.{Note}
use Rattle.cip_tree.specs.Notes.{noted}
use Rattle.cip_tree.specs.Origins.{Origin, after}
use Rattle.cip_tree.specs.Slots.{Slot, Slots, slot_at, above}

-- the region is the node's; or the node's box has no point at all
abbrev pub IsEntered : Region → Region → Bool → Type 0
IsEntered region own true = region ≡ own
IsEntered region own false = (point : List ℚ) → ¬ IsInBox own.box point

-- a region after changes; or no point meets them
abbrev pub AreNarrowed : Region → Region → List Change → Bool → Type 0
AreNarrowed before after changes come = IsEntered after (narrowed before changes) come

-- the region in work with its earlier states, and the nodes on the way to it, from the root down
pub record Way : Type 0 where
  pub domain : Domain
  pub stops : List Stop

-- the last node on the way
abbrev pub last_stop : List Stop → Option Stop
last_stop stops = slice_get stops (length stops - 1)

-- the way ends at the node of a number
pub record EndsAt (stops : List Stop) (number : ℕ) : Type 0 where
  pub stop : Stop
  pub last : last_stop stops ≡ Some stop
  pub number_is : stop.number ≡ number

-- ---- what stays true

-- marks rise along the way
abbrev pub AreRising : List Stop → Type 0
AreRising stops =
    (first second : ℕ) (other : Stop)
    → first ≤ second
    → second < length stops
    → (slice_index_or stops first other).mark ≤ (slice_index_or stops second other).mark

-- a region can be brought back at each of them
abbrev pub AreHeld : Domain → List Stop → Type 0
AreHeld domain stops = All (λ stop. stop.mark ≤ length domain.before) stops

-- a region is that of the node at a place, before its own work
abbrev pub IsRegionAt : Region → Slots → ℕ → Region → Type 0
IsRegionAt root slots place region =
    (slot : Slot) → slot_at slots place ≡ Some slot → region ≡ after root (above slot.number slots slot.origin)

-- the number was given; where a node of it is kept, the region at the mark is that of the node before its own work
pub record IsStop (root : Region) (slots : Slots) (ids : ℕ) (domain : Domain) (stop : Stop) : Type 0 where
  pub given : stop.number < ids
  pub there : (place : ℕ) (slot : Slot)
      → slot_at slots place ≡ Some slot
      → slot.number ≡ stop.number
      → region_at domain stop.mark ≡ after root (above slot.number slots slot.origin)

-- the way goes from the root, and each node on it is such a one
pub record IsWalked (root : Region) (slots : Slots) (ids : ℕ) (way : Way) : Type 0 where
  pub plain : ArePlainPast root
  pub first : region_at way.domain 0 ≡ root
  pub given : (place : ℕ) (slot : Slot) → slot_at slots place ≡ Some slot → slot.number < ids
  pub stops : All (IsStop root slots ids way.domain) way.stops

-- so it stays
abbrev pub StaysWalked : Slots → Way → Way → Type 0
StaysWalked slots old new = (root : Region) (ids : ℕ) → IsWalked root slots ids old → IsWalked root slots ids new

-- ---- from a node to its parent, and back

-- the node at a place was given by a split of the one at another
pub record IsParent (slots : Slots) (place parent : ℕ) : Type 0 where
  pub slot : Slot
  pub found : slot_at slots place ≡ Some slot
  pub change : Change
  pub origin : slot.origin ≡ Some (record { parent = parent; change = change })

-- how the node at a place is reached from its parent: its number, what the parent's own work noted, and by which split
-- it was given
pub record IsDescent (slots : Slots) (place number : ℕ) (notes : List Note) (origin : Origin) : Type 0 where
  pub slot : Slot
  pub found : slot_at slots place ≡ Some slot
  pub number_is : number ≡ slot.number
  pub origin_is : slot.origin ≡ Some origin
  pub parent : Slot
  pub parent_found : slot_at slots origin.parent ≡ Some parent
  pub notes_are : notes ≡ parent.notes

-- a node is kept at a place, and the way ends there
pub record EndsThere (slots : Slots) (stops : List Stop) (place : ℕ) : Type 0 where
  pub slot : Slot
  pub found : slot_at slots place ≡ Some slot
  pub ends : EndsAt stops slot.number

-- from parent to parent, from the node at a place up to one: these are the places before that
abbrev pub Climbs : Slots → ℕ → List ℕ → ℕ → Type 0
Climbs slots place [] top = place ≡ top
Climbs slots place (first ∷ rest) top =
    (first ≡ place) × ((next : ℕ) × (IsParent slots place next × Climbs slots next rest top))

-- the region in work is that of the node at a place, before its own work
pub record StandsAt (root : Region) (slots : Slots) (ids : ℕ) (way : Way) (place : ℕ) : Type 0 where
  pub walked : IsWalked root slots ids way
  pub region : IsRegionAt root slots place (region_of way.domain)

-- it is; or that node's box has no point at all
abbrev pub IsReached : Region → Slots → ℕ → Region → Bool → Type 0
IsReached root slots place region come =
    (slot : Slot)
    → slot_at slots place ≡ Some slot
    → IsEntered region (after root (above slot.number slots slot.origin)) come

-- what going to a node came to
pub record Arrives
    {E : Type 0} (root : Region) (slots : Slots) (ids : ℕ) (way : Way) (place : ℕ)
    (result : Result Bool E) : Type 0 where
  pub walked : IsWalked root slots ids way
  pub reached : IfOk result (IsReached root slots place (region_of way.domain))

-- it goes back to the node where the way ends
abbrev pub GoesBack : Way → Way → Type 0
GoesBack old new =
    (root : Region) (slots : Slots) (ids place : ℕ)
    → IsWalked root slots ids old
    → EndsThere slots old.stops place
    → StandsAt root slots ids new place

-- from the parent it goes to a node
abbrev pub StepsDown : {E : Type 0} → Region → Slots → Way → Way → ℕ → Result Bool E → Type 0
StepsDown root slots old new place result =
    (ids parent : ℕ)
    → StandsAt root slots ids old parent
    → IsParent slots place parent
    → Arrives root slots ids new place result

-- from a node above it goes down to another
abbrev pub Descends : {E : Type 0} → Region → Slots → Way → Way → List ℕ → Result Bool E → Type 0
Descends root slots old new places result =
    (ids place top : ℕ)
    → StandsAt root slots ids old top
    → Climbs slots place places top
    → Arrives root slots ids new place result

-- it goes to a node, whose own work made these notes
abbrev pub Enters : {E : Type 0} → Region → Slots → Way → ℕ → List Note → Way → Result Bool E → Type 0
Enters root slots old place notes new result =
    (ids : ℕ) (slot : Slot)
    → IsWalked root slots ids old
    → slot_at slots place ≡ Some slot
    → IfOk result (IsEntered (region_of new.domain)
    (after root (noted notes ++ above slot.number slots slot.origin)))

-- ---- codes

abbrev stop_code : Coded Stop
stop_code =
    code_by (ℕ × ℕ) (coded× coded_ℕ coded_ℕ)
    (λ s. (s.number, s.mark)) (λ p. record { number = p.0; mark = p.1 }) (λ _. refl)

abbrev pub way_code : Coded Way
way_code =
    code_by (Domain × List Stop) (coded× domain_code (coded_list stop_code))
    (λ w. (w.domain, w.stops)) (λ p. record { domain = p.0; stops = p.1 }) (λ _. refl)
