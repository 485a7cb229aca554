-- What is kept of nodes, by place, and how a node's changes are found there.
use Rattle.std.specs.Prelude.{◌≡◌, ◌≢◌, ℕ, zero, suc, ◌-◌, ◌<◌, ◌==◌, Bool, false, List, [], ◌∷◌, ◌++◌, count_by, Option, None, Some, IfSome, slice_index_or, refl}
use Rattle.std.specs.Coded.{Coded, code_by, coded×, coded_ℕ, coded_list, coded_option}
use Rattle.cip_domain.specs.Changes.{Change}
use Rattle.cip_tree.specs.declared.notes.Note.{Note}
use Rattle.cip_tree.specs.Notes.{noted, note_code}
use Rattle.cip_tree.specs.declared.kept.Stage.{Stage}
use Rattle.cip_tree.specs.declared.kept.Stage.TheVariants.{Open, Taken, Parked, Ended}
use Rattle.cip_tree.specs.Origins.{Origin, origin_code}

-- what is kept of a node: its number; the change that gave it, with the place of its parent; the changes of its own
-- work, the oldest first; how many nodes have it as parent; and where it stands
pub record Slot : Type 0 where
  pub number : ℕ
  pub origin : Option Origin
  pub notes : List Note
  pub below : ℕ
  pub stage : Stage

-- what is kept, by place
abbrev pub Slots : Type 0
Slots = List (Option Slot)

abbrev pub slot_at : Slots → ℕ → Option Slot
slot_at slots place = slice_index_or slots place None

-- a node that was just given
abbrev pub open_slot : ℕ → Option Origin → Slot
open_slot number origin = record { number = number; origin = origin; notes = []; below = 0; stage = Open }

-- ---- changes

-- the changes of a node and of those above it, the newest first
abbrev pub changes_of : Option Slot → (Option Origin → List Change) → List Change
changes_of None above = []
changes_of (Some slot) above = noted slot.notes ++ above slot.origin

-- the change that gave a node, and those of its parent and of the nodes above that, in so many steps
abbrev pub above : ℕ → Slots → Option Origin → List Change
above zero slots origin = []
above (suc steps) slots None = []
above (suc steps) slots (Some origin) = origin.change ∷ changes_of (slot_at slots origin.parent) (above steps slots)

-- the changes of the node in a slot, its own first: it has no more nodes above it than its number
abbrev pub slot_changes : Slots → Option Slot → List Change
slot_changes slots None = []
slot_changes slots (Some slot) = noted slot.notes ++ above slot.number slots slot.origin

-- the changes of the node at a place
abbrev pub changes_at : Slots → ℕ → List Change
changes_at slots place = slot_changes slots (slot_at slots place)

-- ---- what stays true

-- a node was given by a split of the node at a place
abbrev pub origin_is : ℕ → Option Origin → Bool
origin_is place None = false
origin_is place (Some origin) = origin.parent == place

-- there is a node that was given by a split of the node at a place
abbrev pub comes_from : ℕ → Option Slot → Bool
comes_from place None = false
comes_from place (Some slot) = origin_is place slot.origin

-- the slot's parent is kept, was split, and has a lower number
pub record HasParent (slots : Slots) (slot : Slot) (origin : Origin) : Type 0 where
  pub parent : Slot
  pub found : slot_at slots origin.parent ≡ Some parent
  pub ended : parent.stage ≡ Ended
  pub lower : parent.number < slot.number

-- each parent is kept; each node knows how many have it as parent; numbers differ; and a node that ended is kept only
-- where one has it as parent, but for the node at the place that is let go next, if there is one
pub record IsKeptBut (idle : Option ℕ) (slots : Slots) : Type 0 where
  pub parents : (place : ℕ) (slot : Slot) → slot_at slots place ≡ Some slot → IfSome slot.origin (HasParent slots slot)
  pub counts : (place : ℕ) (slot : Slot)
      → slot_at slots place ≡ Some slot → slot.below ≡ count_by (comes_from place) slots
  pub apart : (place other : ℕ) (slot next : Slot)
      → slot_at slots place ≡ Some slot → slot_at slots other ≡ Some next → slot.number ≡ next.number → place ≡ other
  pub used : (place : ℕ) (slot : Slot)
      → slot_at slots place ≡ Some slot → slot.stage ≡ Ended → idle ≢ Some place → 0 < slot.below

-- the same with nothing to let go
abbrev pub AreSoundSlots : Slots → Type 0
AreSoundSlots slots = IsKeptBut None slots

-- a node has the one at a place as parent
pub record IsUsed (slots : Slots) (place : ℕ) : Type 0 where
  pub slot : Slot
  pub found : slot_at slots place ≡ Some slot
  pub some_below : 0 < slot.below

-- no node has the one at a place as parent
pub record IsIdle (slots : Slots) (place : ℕ) : Type 0 where
  pub slot : Slot
  pub found : slot_at slots place ≡ Some slot
  pub none_below : slot.below ≡ 0

-- and it has ended
pub record IsUnused (slots : Slots) (place : ℕ) : Type 0 where
  pub idle : IsIdle slots place
  pub ended : idle.slot.stage ≡ Ended

-- the parent of a node of this number is kept, and has a lower one
pub record IsBelow (slots : Slots) (number : ℕ) (origin : Origin) : Type 0 where
  pub parent : Slot
  pub found : slot_at slots origin.parent ≡ Some parent
  pub lower : parent.number < number

-- so it is up to the root
pub record IsLinked (slots : Slots) (number : ℕ) (origin : Option Origin) : Type 0 where
  pub here : IfSome origin (IsBelow slots number)
  pub up : (place : ℕ) (slot : Slot) → slot_at slots place ≡ Some slot → IfSome slot.origin (IsBelow slots slot.number)

-- ---- steps

-- the node at a place has other notes and another stage
pub record IsRestaged (old new : Slots) (place : ℕ) (had notes : List Note) (stage : Stage) : Type 0 where
  pub slot : Slot
  pub was : slot_at old place ≡ Some slot
  pub had_is : had ≡ slot.notes
  pub now : slot_at new place ≡ Some (record slot { notes = notes; stage = stage })
  pub others : (other : ℕ) → other ≢ place → slot_at new other ≡ slot_at old other

-- the node at a place was split: it has ended with these notes, and its halves stand at two new places
pub record IsParted
    (old new : Slots) (place : ℕ) (notes : List Note) (low high : Slot) (low_place high_place : ℕ) : Type 0
  where
    pub slot : Slot
    pub was : slot_at old place ≡ Some slot
    pub now : slot_at new place ≡ Some (record slot { notes = notes; below = 2; stage = Ended })
    pub low_new : slot_at old low_place ≡ None
    pub high_new : slot_at old high_place ≡ None
    pub low_now : slot_at new low_place ≡ Some low
    pub high_now : slot_at new high_place ≡ Some high
    pub differ : low_place ≢ high_place
    pub others : (other : ℕ)
        → other ≢ place → other ≢ low_place → other ≢ high_place → slot_at new other ≡ slot_at old other

-- one node fewer has the one at a place as parent
pub record IsLowered (old new : Slots) (place : ℕ) (none_left : Bool) : Type 0 where
  pub slot : Slot
  pub was : slot_at old place ≡ Some slot
  pub now : slot_at new place ≡ Some (record slot { below = slot.below - 1 })
  pub left : none_left ≡ (slot.below - 1 == 0)
  pub others : (other : ℕ) → other ≢ place → slot_at new other ≡ slot_at old other

-- the node at a place is let go, and perhaps nodes that ended with it; what is left is as it was, but for counts
pub record IsReleased (old new : Slots) (place : ℕ) : Type 0 where
  pub gone : slot_at new place ≡ None
  pub live : (other : ℕ) (slot : Slot)
      → other ≢ place → slot_at old other ≡ Some slot → slot.stage ≢ Ended → slot_at new other ≡ Some slot
  pub left : (other : ℕ) (slot : Slot)
      → slot_at new other ≡ Some slot → (below : ℕ) × (slot_at old other ≡ Some (record slot { below = below }))

-- ---- codes

-- where the stages stand
abbrev pub stage_index : Stage → ℕ
stage_index Open = 0
stage_index Taken = 1
stage_index Parked = 2
stage_index Ended = 3

abbrev pub stage_from : ℕ → Stage
stage_from zero = Open
stage_from (suc zero) = Taken
stage_from (suc (suc zero)) = Parked
stage_from (suc (suc (suc n))) = Ended

pub stage_back : (stage : Stage) → stage_from (stage_index stage) ≡ stage
stage_back Open = refl
stage_back Taken = refl
stage_back Parked = refl
stage_back Ended = refl

abbrev pub stage_code : Coded Stage
stage_code = code_by ℕ coded_ℕ stage_index stage_from stage_back

-- all fields of a slot, in pairs
abbrev pub slot_code : Coded Slot
slot_code =
    code_by (ℕ × (Option Origin × (List Note × (ℕ × Stage))))
    (coded× coded_ℕ (coded× (coded_option origin_code) (coded× (coded_list note_code) (coded× coded_ℕ stage_code))))
    (λ s. (s.number, (s.origin, (s.notes, (s.below, s.stage)))))
    (λ p. record { number = p.0; origin = p.1.0; notes = p.1.1.0; below = p.1.1.1.0; stage = p.1.1.1.1 }) (λ _. refl)
