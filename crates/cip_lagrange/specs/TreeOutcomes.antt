-- The check of a bounding tree as one computation: the least of its leaves' bounds, each in the box that its path
-- leaves, or the first fault in the order of the tree. A node of the tree has a number: the root is 1, and the halves
-- of node n are 2 n and 2 n + 1.
use Rattle.std.specs.Prelude.{ℕ, ◌+◌, ◌*◌, ◌^◌, ℤ, pos, ◌+ℤ◌, unsigned_abs, Bool, true, false, not, ◌&&◌, nat_lt, nat_le, int_le, int_lt, List, length, Option, None, Some, Result, Ok, Err, if◌then◌else◌, slice_index_or}
use Rattle.cip_rational.specs.Rational.{ℚ, integer, minimum, floor, ceil}
use Rattle.cip_problem.specs.Program.{Sides, Choice, Plain, Open, Off, On}
use Rattle.cip_problem.specs.Box.{sides_at}
use Rattle.cip_problem.specs.Choices.{choice_at, met, zero_sides}
use Rattle.cip_problem.specs.Log.{Node, low_node, high_node}
use Rattle.cip_lin.specs.declared.combos.Combo.{Combo}
use Rattle.cip_cert.specs.Lent.{Lent, multiples_of}
use Rattle.cip_cert.specs.Checks.{lower_bound_of, emptied}
use Rattle.cip_cert.specs.declared.faults.CutFault.{CutFault}
use Rattle.cip_cert.specs.declared.pricing.BoundTree.{BoundTree, Bound, Empty, Split'}
use Rattle.cip_lagrange.specs.declared.answers.TreeBound.{TreeBound}
use Rattle.cip_lagrange.specs.declared.answers.TreeBound.TheVariants.{Finite, NoPoint}
use Rattle.cip_lagrange.specs.declared.answers.TreeFault.{TreeFault}
use Rattle.cip_lagrange.specs.declared.answers.TreeFault.TheVariants.{TooDeep, BadSplit, At}
use Rattle.cip_lagrange.specs.declared.regions.TreeRegion.{TreeRegion}

-- ---- nodes

-- a box with choices, as a node
abbrev pub node_in : TreeRegion → Node
node_in region = record { number = 0; box = region.bounds; choices = region.choices; bound = None }

-- a half of a node: the high one, or the low one
abbrev pub half_of : Bool → Node → ℕ → ℤ → Node
half_of true node column at = high_node node column at
half_of false node column at = low_node node column at

-- the sides of a column in a half: of one whose choice is open with these own sides, and of a whole one
abbrev pub open_half : Bool → (own sides : Sides) → Sides
open_half true own sides = met sides own
open_half false own sides = met sides zero_sides

abbrev pub whole_half : Bool → ℤ → Sides → Sides
whole_half true at sides = record { low = Some (integer (at +ℤ pos 1)); high = sides.high }
whole_half false at sides = record { low = sides.low; high = Some (integer at) }

-- ---- splits

-- a whole number lies between a low side and a number, or between the next number and a high side
abbrev pub has_low : Option ℚ → ℤ → Bool
has_low None at = true
has_low (Some low) at = int_le (ceil low) at

abbrev pub has_high : Option ℚ → ℤ → Bool
has_high None at = true
has_high (Some high) at = int_lt at (floor high)

-- sides can be halved at a number: it has a size of at most 2^101, and each half has a whole value
abbrev pub can_halve : Sides → ℤ → Bool
can_halve sides at = nat_le (unsigned_abs at) (2 ^ 101) && (has_low sides.low at && has_high sides.high at)

-- a column can be split: a whole one that is plain where its sides can be halved, and one whose choice is open
abbrev pub can_split_at : Choice → Bool → Sides → ℤ → Bool
can_split_at Plain whole sides at = whole && can_halve sides at
can_split_at (Open own) whole sides at = not whole
can_split_at Off whole sides at = false
can_split_at On whole sides at = false

-- so can a node at a column of its box
abbrev pub can_split : List Bool → Node → ℕ → ℤ → Bool
can_split integral node column at =
    nat_lt column (length node.box)
    && can_split_at (choice_at node.choices column) (slice_index_or integral column false) (sides_at node.box column) at

-- why a node can't be split: it has 64 splits above it, or its column can't be split at that number
abbrev pub split_fault : List Bool → ℕ → Node → ℕ → ℤ → Option TreeFault
split_fault integral number node column at =
    if nat_le (2 ^ 64) number then Some TooDeep
    else (if can_split integral node column at then None else Some (BadSplit number))

-- ---- outcomes

-- what comes after an outcome: a fault stays
abbrev pub after : Result TreeBound TreeFault → (TreeBound → Result TreeBound TreeFault) → Result TreeBound TreeFault
after (Ok bound) next = next bound
after (Err fault) next = Err fault

-- an outcome, where nothing is wrong before it
abbrev pub unless : Option TreeFault → Result TreeBound TreeFault → Result TreeBound TreeFault
unless None outcome = outcome
unless (Some fault) outcome = Err fault

-- the check of a leaf, whose fault is that of its node
abbrev pub finite_at : ℕ → Result ℚ CutFault → Result TreeBound TreeFault
finite_at number (Ok bound) = Ok (Finite bound)
finite_at number (Err fault) = Err (At number fault)

abbrev pub none_at : ℕ → Result ℚ CutFault → Result TreeBound TreeFault
none_at number (Ok bound) = Ok NoPoint
none_at number (Err fault) = Err (At number fault)

-- the lesser of two bounds; where there is no point, that of the other half
abbrev pub lesser_bound : TreeBound → TreeBound → TreeBound
lesser_bound NoPoint other = other
lesser_bound (Finite bound) NoPoint = Finite bound
lesser_bound (Finite bound) (Finite other) = Finite (minimum bound other)

-- what trees are checked with: the rows that are lent, the whole columns, the room of the scratch, and the costs
pub record Asked : Type 0 where
  pub lent : Lent
  pub integral : List Bool
  pub room : ℕ
  pub costs : List ℚ

-- a leaf that bounds the costs, and one that empties its box
abbrev pub bound_leaf : Asked → ℕ → Combo → Node → Result TreeBound TreeFault
bound_leaf asked number combo node =
    finite_at number (lower_bound_of asked.lent node.box asked.room asked.costs (multiples_of combo))

abbrev pub empty_leaf : Asked → ℕ → Combo → Node → Result TreeBound TreeFault
empty_leaf asked number combo node = none_at number (emptied asked.lent node.box asked.room (multiples_of combo))

-- the outcome of a tree at a node of this number
abbrev pub tree_outcome : Asked → ℕ → BoundTree → Node → Result TreeBound TreeFault
tree_outcome asked number (Bound combo) node = bound_leaf asked number combo node
tree_outcome asked number (Empty combo) node = empty_leaf asked number combo node
tree_outcome asked number (Split' column at p low q high) node =
    unless (split_fault asked.integral number node column at)
    (after (tree_outcome asked (2 * number) low (low_node node column at))
    (λ below. after (tree_outcome asked (2 * number + 1) high (high_node node column at))
    (λ above. Ok (lesser_bound below above))))
