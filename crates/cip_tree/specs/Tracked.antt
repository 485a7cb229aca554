-- What the log knows of the nodes that are kept.
use Rattle.std.specs.Prelude.{◌≡◌, ℕ, ◌≤◌, Bool, true, false, List, [], ◌∷◌, None, Some, IfSome}
use Rattle.std.specs.List.{AllZip}
use Rattle.cip_rational.specs.Rational.{ℚ, ◌≤ℚ◌}
use Rattle.cip_problem.specs.Program.{Sides}
use Rattle.cip_problem.specs.Log.{Entry, Node, node_of, given_after}
use Rattle.cip_domain.specs.Changes.{Region}
use Rattle.cip_tree.specs.Origins.{after}
use Rattle.cip_tree.specs.declared.kept.Stage.{Stage}
use Rattle.cip_tree.specs.declared.kept.Stage.TheVariants.{Open, Taken, Parked, Ended}
use Rattle.cip_tree.specs.Nodes.{region_in}
use Rattle.cip_tree.specs.Slots.{Slot, Slots, slot_at, above}
use Rattle.cip_tree.specs.Searched.{IsSearched, HasNotEnded}

-- what both sides let through, the other ones let through, too, each by itself
pub record AreAsStrong (sides other : Sides) : Type 0 where
  pub low : (value : ℚ) → IfSome sides.low (λ side. side ≤ℚ value) → IfSome other.low (λ side. side ≤ℚ value)
  pub high : (value : ℚ) → IfSome sides.high (λ side. value ≤ℚ side) → IfSome other.high (λ side. value ≤ℚ side)

-- so it is in each column of two boxes
abbrev pub IsWithin : List Sides → List Sides → Type 0
IsWithin box outer = AllZip AreAsStrong box outer

-- the nodes that a log gives, from a root on
abbrev pub given_by : Node → List Entry → List Node
given_by root log = given_after (root ∷ []) log

-- the node in a slot was given with its choices, and its box, before its own work changed it, lies within the one that
-- was given
pub record IsGiven (root : Region) (slots : Slots) (given : List Node) (slot : Slot) : Type 0 where
  pub node : Node
  pub found : node_of given slot.number ≡ Some node
  pub within : IsWithin (after root (above slot.number slots slot.origin)).box node.box
  pub choices_are : (after root (above slot.number slots slot.origin)).choices ≡ node.choices

-- nodes that wait or are in work have no entry in the log yet
abbrev pub is_live : Stage → Bool
is_live Open = true
is_live Taken = true
is_live Parked = false
is_live Ended = false

-- the log is one of a search; numbers from `ids` on are free; each node that is kept was given; and those that wait or
-- are in work have no entry
pub record IsTracked (root : Node) (integral : List Bool) (slots : Slots) (ids : ℕ) (log : List Entry) : Type 0 where
  pub searched : IsSearched integral root log
  pub free : (number : ℕ) → ids ≤ number → node_of (given_by root log) number ≡ None
  pub given : (place : ℕ) (slot : Slot)
      → slot_at slots place ≡ Some slot → IsGiven (region_in root) slots (given_by root log) slot
  pub live : (place : ℕ) (slot : Slot)
      → slot_at slots place ≡ Some slot → is_live slot.stage ≡ true → HasNotEnded log slot.number
