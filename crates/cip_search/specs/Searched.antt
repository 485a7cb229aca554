-- What a search has reached: its open nodes and parked leaves by its log, their least bound, and which points they
-- cover. `start` is the bound that its root has, which is none where the box bound has no value.
use Rattle.std.specs.Prelude.{◌≡◌, ◌⊎◌, true, List, [], ◌∷◌, ◌++◌, map, Option, None, Some, IfSome, ⊤}
use Rattle.std.specs.List.{Contains}
use Rattle.cip_rational.specs.Rational.{ℚ, ◌≤ℚ◌}
use Rattle.cip_problem.specs.Program.{Program}
use Rattle.cip_problem.specs.Box.{IsInBox}
use Rattle.cip_problem.specs.Points.{cost_of}
use Rattle.cip_problem.specs.Choices.{decided}
use Rattle.cip_problem.specs.Log.{Parked, Entry, Node, node_of, given_after, matters}
use Rattle.cip_problem.specs.Improving.{HoldsInBox, IsImproving, IsBoundIn}
use Rattle.cip_search.specs.Leaf.{Leaf, IsLeafOf, IsPointOfLeaf}
use Rattle.cip_search.specs.Wide.{Place, IsWideAt}

-- ---- nodes and leaves

-- the node that a search begins with
abbrev pub first_node : Program → Option ℚ → Node
first_node program start = record { number = 0; box = program.bounds; choices = program.choices; bound = start }

-- the nodes that a log gives
abbrev pub nodes_given : Program → Option ℚ → List Entry → List Node
nodes_given program start log = given_after (first_node program start ∷ []) log

-- an open node: one that was given and has not been taken
pub record IsLeftOpen (program : Program) (start : Option ℚ) (log : List Entry) (node : Node) : Type 0 where
  pub given : node_of (nodes_given program start log) node.number ≡ Some node
  pub not_taken : ¬ Contains (map (λ entry. entry.node) log) node.number

-- a parked leaf: an entry that says so, and the node that it is of. Its bound is the entry's
pub record IsParkedLeaf
    (program : Program) (start : Option ℚ) (log : List Entry) (entry : Entry) (node : Node) : Type 0 where
  pub among : Contains log entry
  pub parked : entry.end ≡ Parked
  pub given : node_of (nodes_given program start log) entry.node ≡ Some node

-- ---- what matters

-- an open node matters beside what is held
pub record OpenMatters (program : Program) (start : Option ℚ) (log : List Entry) (held : Option ℚ) : Type 0 where
  pub node : Node
  pub left : IsLeftOpen program start log node
  pub matter : matters held node.bound ≡ true

-- a parked leaf matters beside what is held
pub record ParkedMatters (log : List Entry) (held : Option ℚ) : Type 0 where
  pub entry : Entry
  pub among : Contains log entry
  pub parked : entry.end ≡ Parked
  pub matter : matters held entry.bound ≡ true

-- ---- the least bound

-- a bound is at most another; no bound counts as least
abbrev pub NoMore : Option ℚ → Option ℚ → Type 0
NoMore None other = ⊤
NoMore (Some bound) None = ⊥
NoMore (Some bound) (Some other) = bound ≤ℚ other

-- a bound is the cost held
pub record IsCostHeld (held bound : Option ℚ) : Type 0 where
  pub cost : ℚ
  pub is_held : held ≡ Some cost
  pub is_bound : bound ≡ Some cost

-- a bound is that of an open node
pub record IsOfOpen (program : Program) (start : Option ℚ) (log : List Entry) (bound : Option ℚ) : Type 0 where
  pub node : Node
  pub left : IsLeftOpen program start log node
  pub is_bound : bound ≡ node.bound

-- a bound is that of a parked leaf
pub record IsOfParked (log : List Entry) (bound : Option ℚ) : Type 0 where
  pub entry : Entry
  pub among : Contains log entry
  pub parked : entry.end ≡ Parked
  pub is_bound : bound ≡ entry.bound

-- a bound is one of these
abbrev pub IsOneOf : Program → Option ℚ → List Entry → Option ℚ → Option ℚ → Type 0
IsOneOf program start log held bound =
    IsCostHeld held bound ⊎ (IsOfOpen program start log bound ⊎ IsOfParked log bound)

-- a bound is the least of the cost held and of the bounds of open nodes and parked leaves
pub record IsLeast
    (program : Program) (start : Option ℚ) (log : List Entry) (held bound : Option ℚ) : Type 0 where
  pub one : IsOneOf program start log held bound
  pub least : (other : Option ℚ) → IsOneOf program start log held other → NoMore bound other

-- ---- the cover

-- a point lies in the box of an open node
pub record IsInOpen (program : Program) (start : Option ℚ) (log : List Entry) (point : List ℚ) : Type 0 where
  pub node : Node
  pub left : IsLeftOpen program start log node
  pub within : IsInBox node.box point

-- a point lies in the box of a parked leaf
pub record IsInParked (program : Program) (start : Option ℚ) (log : List Entry) (point : List ℚ) : Type 0 where
  pub entry : Entry
  pub node : Node
  pub leaf : IsParkedLeaf program start log entry node
  pub within : IsInBox node.box point

-- each improving point lies in the box of an open node or of a parked leaf, and their bounds, where they have some,
-- hold in their boxes
pub record IsCovered (program : Program) (start : Option ℚ) (log : List Entry) (held : Option ℚ) : Type 0 where
  pub reached : (point : List ℚ) → IsImproving program held point
      → IsInOpen program start log point ⊎ IsInParked program start log point
  pub open_bounds : (node : Node)
      → IsLeftOpen program start log node → IfSome node.bound (IsBoundIn program held node.box)
  pub parked_bounds : (entry : Entry) (node : Node)
      → IsParkedLeaf program start log entry node → IfSome entry.bound (IsBoundIn program held node.box)

-- ---- entries, by what `Wide` says of the program of a leaf and its values

-- a point of this leaf costs no more than this
pub record HasPointOfLeaf (program : Program) (leaf : Leaf) (cost : ℚ) : Type 0 where
  pub point : List ℚ
  pub is_point : IsPointOfLeaf program leaf point
  pub no_dearer : cost_of program point ≤ℚ cost

-- each improving point in the box of a node has a point of this leaf that is no dearer
abbrev pub LeadsTo : Program → Option ℚ → Node → Leaf → Type 0
LeadsTo program held node leaf =
    HoldsInBox program held node.box (λ point. HasPointOfLeaf program leaf (cost_of program point))

-- the improving points in the box of a node lead to the same leaf of the program, which is wide
pub record HasWideLeaf
    (program : Program) (Wide : Program → List ℚ → Type 0) (held : Option ℚ) (node : Node) : Type 0 where
  pub leaf : Leaf
  pub is_leaf : IsLeafOf program leaf
  pub leads : LeadsTo program held node leaf
  pub wide : Wide (decided program leaf.on) leaf.values

-- an entry is a true one of its node: its bound is at least the node's and holds in the node's box, and where it says
-- that the node was parked, its improving points lead to a wide leaf
pub record IsTrueEntry
    (program : Program) (Wide : Program → List ℚ → Type 0) (held : Option ℚ) (node : Node) (entry : Entry)
    : Type 0 where
  pub kept : NoMore node.bound entry.bound
  pub holds : IfSome entry.bound (IsBoundIn program held node.box)
  pub parked : entry.end ≡ Parked → HasWideLeaf program Wide held node

-- all entries of a log are true ones of their nodes
abbrev pub AreTrueEntries :
    Program → (Wide : Program → List ℚ → Type 0) → (start : Option ℚ) → List Entry → (held : Option ℚ) → Type 0
AreTrueEntries program Wide start log held =
    (entry : Entry) (node : Node) → Contains log entry → node_of (nodes_given program start log) entry.node ≡ Some node
    → IsTrueEntry program Wide held node entry

-- ---- the leaf that is shown

-- of the parked entries of a log this is the one of least bound, and the first of these
pub record IsFirstLeast (log : List Entry) (entry : Entry) : Type 0 where
  pub before : List Entry
  pub after : List Entry
  pub placed : log ≡ before ++ entry ∷ after
  pub parked : entry.end ≡ Parked
  pub least : (other : Entry) → Contains log other → other.end ≡ Parked → NoMore entry.bound other.bound
  pub first : (other : Entry) → Contains before other → other.end ≡ Parked → ¬ NoMore other.bound entry.bound

-- a leaf that is shown for an overflow: the improving points of the parked node of least bound lead to it, and it is
-- wide at this place
pub record IsShown
    (program : Program) (start : Option ℚ) (log : List Entry) (held : Option ℚ) (leaf : Leaf) (place : Place) : Type 0
  where
    pub entry : Entry
    pub node : Node
    pub chosen : IsFirstLeast log entry
    pub given : node_of (nodes_given program start log) entry.node ≡ Some node
    pub leads : LeadsTo program held node leaf
    pub is_leaf : IsLeafOf program leaf
    pub wide : IsWideAt (decided program leaf.on) leaf.values place
