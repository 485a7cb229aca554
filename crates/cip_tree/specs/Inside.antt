-- How a tree is kept.
use Rattle.std.specs.Prelude.{◌≡◌, ℕ, ◌+◌, ◌<◌, ◌≤◌, ◌==◌, Bool, true, false, List, map, length, count_by, Option, None, Some, All}
use Rattle.cip_problem.specs.Log.{Node}
use Rattle.cip_domain.specs.Changes.{Region}
use Rattle.cip_tree.specs.declared.kept.Stage.{Stage}
use Rattle.cip_tree.specs.declared.kept.Stage.TheVariants.{Open, Taken, Parked, Ended}
use Rattle.cip_tree.specs.declared.queue.OpenNode.{OpenNode}
use Rattle.cip_tree.specs.Slots.{Slot, Slots, slot_at, above, changes_at, AreSoundSlots}
use Rattle.cip_tree.specs.Nodes.{Base, node_in}
use Rattle.cip_tree.specs.Origins.{after}

-- a node that is kept at a place
abbrev pub node_at : Region → Slots → OpenNode → Node
node_at root slots node = node_in (after root (changes_at slots node.place)) node.id node.bound

-- the nodes that are kept at places
abbrev pub nodes_at : Region → Slots → List OpenNode → List Node
nodes_at root slots nodes = map (node_at root slots) nodes

-- what a node at a stage keeps for its work: only one that is taken does
abbrev pub base_if : Stage → Base → Option Base
base_if Open base = None
base_if Taken base = Some base
base_if Parked base = None
base_if Ended base = None

-- what a slot keeps for a node in work
abbrev pub base_of : Slots → Option Slot → Option Base
base_of slots None = None
base_of slots (Some slot) =
    base_if slot.stage (record { number = slot.number; changes = above slot.number slots slot.origin })

-- what is kept of nodes in work, by place
abbrev pub bases : Slots → List (Option Base)
bases slots = map (base_of slots) slots

-- a stage is that of a node in the queue, of one in work, of one that was put aside
abbrev pub is_waiting : Stage → Bool
is_waiting Open = true
is_waiting Taken = false
is_waiting Parked = false
is_waiting Ended = false

abbrev pub is_taken : Stage → Bool
is_taken Open = false
is_taken Taken = true
is_taken Parked = false
is_taken Ended = false

abbrev pub is_aside : Stage → Bool
is_aside Open = false
is_aside Taken = false
is_aside Parked = true
is_aside Ended = false

-- a slot is of a node at such a stage
abbrev pub has_stage : (Stage → Bool) → Option Slot → Bool
has_stage test None = false
has_stage test (Some slot) = test slot.stage

-- a node stands in its slot, at a stage
pub record StandsAs (stage : Stage) (slots : Slots) (node : OpenNode) : Type 0 where
  pub slot : Slot
  pub found : slot_at slots node.place ≡ Some slot
  pub number : slot.number ≡ node.id
  pub stage_is : slot.stage ≡ stage

-- a node is kept at a place
abbrev pub is_at : ℕ → OpenNode → Bool
is_at place node = node.place == place

-- the open and the parked nodes stand in slots of their own, and there are so many nodes in work; no other node is kept
-- but those that ended and have one below
pub record IsInOrder (slots : Slots) (open_ parked : List OpenNode) (ids in_work : ℕ) : Type 0 where
  pub kept : AreSoundSlots slots
  pub given : (place : ℕ) (slot : Slot) → slot_at slots place ≡ Some slot → slot.number < ids
  pub waiting : All (StandsAs Open slots) open_
  pub once : (place : ℕ) → count_by (is_at place) open_ ≤ 1
  pub aside : All (StandsAs Parked slots) parked
  pub work : in_work ≡ count_by (has_stage is_taken) slots
  pub waits : length open_ ≡ count_by (has_stage is_waiting) slots
  pub rests : length parked ≡ count_by (has_stage is_aside) slots

-- there is room to put each node in work back, or aside, and for its entry in the log, and so for the open ones
pub record HasRoom (open_ in_work spare parked_spare log_spare : ℕ) : Type 0 where
  pub queue : in_work ≤ spare
  pub parked : open_ + in_work ≤ parked_spare
  pub log : open_ + in_work ≤ log_spare
