-- What holds of a search between two steps. A tree of boxes is searched for points of a program `reduced`, which may be
-- another one than the program as read: `way` leads back. The log, the boxes, the bounds and the cover are those of the
-- reduced program; the program as read is what points are held of, and to whose leaves parked nodes lead back. `start`
-- is the bound that the root has, if it has one; `Wide` says which whole values of a program can't be solved in range.
use Rattle.std.specs.Prelude.{◌≡◌, ℕ, ◌==◌, ◌≤◌, Bool, true, false, List, [], ◌∷◌, ◌++◌, map, count_by, Option, Some, IfSome}
use Rattle.std.specs.List.{Contains, filter}
use Rattle.cip_rational.specs.Rational.{ℚ}
use Rattle.cip_problem.specs.Program.{Program}
use Rattle.cip_problem.specs.Box.{IsInBox}
use Rattle.cip_problem.specs.Choices.{decided}
use Rattle.cip_problem.specs.Points.{IsFeasible, cost_of}
use Rattle.cip_problem.specs.Log.{End, Split, Closed, Parked, Entry, Node, node_of, AllFollow, matters}
use Rattle.cip_problem.specs.Improving.{HoldsInBox, IsBoundIn}
use Rattle.cip_problem.specs.Cover.{IsCover}
use Rattle.cip_problem.specs.Reduced.{IsReduction}
use Rattle.cip_search.specs.Leaf.{at_wholes, Leaf, IsLeafOf, IsOnlyLeafOf}
use Rattle.cip_search.specs.Searched.{first_node, nodes_given, IsLeftOpen, NoMore, HasPointOfLeaf}
use Rattle.cip_search.specs.WideLeaf.{Shown, IsWideBy}

-- where a search stands: the cost held, if a point is; the nodes in work, the open and the parked ones, each with the
-- box and the bound that it has now; and the log
pub record State : Type 0 where
  pub held : Option ℚ
  pub work : List Node
  pub open_ : List Node
  pub parked : List Node
  pub log : List Entry

-- the nodes in work and the open ones: those that have not ended
abbrev pub unended : State → List Node
unended state = state.work ++ state.open_

-- all nodes
abbrev pub all_nodes : State → List Node
all_nodes state = unended state ++ state.parked

-- ---- nodes and the log

-- a log has no entry of a number
abbrev pub HasNoEntry : List Entry → ℕ → Type 0
HasNoEntry log number = ¬ Contains (map (λ entry. entry.node) log) number

-- the log gave a node of this number; its box holds the node's own, which has all improving points of it; its choices
-- are the node's own; and its bound, if it has one, is no more than the node's
pub record IsGiven
    (reduced : Program) (start : Option ℚ) (log : List Entry) (held : Option ℚ) (node : Node) : Type 0 where
  pub given : Node
  pub found : node_of (nodes_given reduced start log) node.number ≡ Some given
  pub holds : (point : List ℚ) → IsInBox node.box point → IsInBox given.box point
  pub keeps : HoldsInBox reduced held given.box (IsInBox node.box)
  pub choices : node.choices ≡ given.choices
  pub bound : NoMore given.bound node.bound

-- a node has this number
abbrev pub has_number : ℕ → Node → Bool
has_number number node = node.number == number

-- no two of the nodes have the same number
abbrev pub AreApart : List Node → Type 0
AreApart nodes = (number : ℕ) → count_by (has_number number) nodes ≤ 1

-- one of the nodes has this number
pub record HasNumber (nodes : List Node) (number : ℕ) : Type 0 where
  pub node : Node
  pub among : Contains nodes node
  pub is : node.number ≡ number

-- ---- entries

-- an entry's bound is at least that of its node as the log gave it, and holds in the box that the log gave
pub record IsRightEntry (reduced : Program) (held : Option ℚ) (node : Node) (entry : Entry) : Type 0 where
  pub kept : NoMore node.bound entry.bound
  pub holds : IfSome entry.bound (IsBoundIn reduced held node.box)

-- the entry of a node that was put aside
abbrev pub parked_entry : Node → Entry
parked_entry node = record { node = node.number; bound = node.bound; end = Parked }

abbrev pub is_parked_end : End → Bool
is_parked_end (Split column at low high) = false
is_parked_end Closed = false
is_parked_end Parked = true

-- the entries that say that a node was put aside
abbrev pub parked_entries : List Entry → List Entry
parked_entries log = filter (λ entry. is_parked_end entry.end) log

-- ---- the program as read

-- how points of the reduced program, and the values of its whole columns, come back
pub record WayBack : Type 0 where
  pub point : List ℚ → List ℚ
  pub leaf : List ℚ → List ℚ

-- a program that is searched itself: all stays as it is
abbrev pub stay : WayBack
stay = record { point = λ point. point; leaf = λ leaf. leaf }

-- the reduced program may be solved in place of the program as read; the whole values of a feasible point come back as
-- those of the point that it comes back as; and where the choices are made in one way, it comes back as a point where
-- they are made so
pub record IsWayBack (program reduced : Program) (way : WayBack) : Type 0 where
  pub reduction : IsReduction program reduced way.point
  pub leaves : (point : List ℚ) → IsFeasible reduced point
      → at_wholes program.integral (way.point point) ≡ way.leaf (at_wholes reduced.integral point)
  pub choices : (on : List Bool) (point : List ℚ)
      → IsFeasible (decided reduced on) point → IsFeasible (decided program on) (way.point point)

-- a feasible point of the program has this cost
pub record IsAttained (program : Program) (cost : ℚ) : Type 0 where
  pub point : List ℚ
  pub feasible : IsFeasible program point
  pub is_cost : cost ≡ cost_of program point

-- each improving point of the reduced program in the box of a node has a point of this leaf of the program, which costs
-- no more than it does in the reduced program
abbrev pub LeadsBackTo : (program reduced : Program) → (held : Option ℚ) → Node → Leaf → Type 0
LeadsBackTo program reduced held node leaf =
    HoldsInBox reduced held node.box (λ point. HasPointOfLeaf program leaf (cost_of reduced point))

-- the improving points in the box of a node lead back to a leaf of the program, which is wide
pub record LeadsToWide
    (program reduced : Program) (Wide : Program → List ℚ → Type 0) (held : Option ℚ) (node : Node) : Type 0 where
  pub leaf : Leaf
  pub is_leaf : IsLeafOf program leaf
  pub leads : LeadsBackTo program reduced held node leaf
  pub wide : Wide (decided program leaf.on) leaf.values

-- the box of a node has one leaf, which comes back as this leaf of the program, and that is wide: by this a node is put
-- aside
pub record IsStuckAt
    (program reduced : Program) (way : WayBack) (Wide : Program → List ℚ → Type 0) (leaf : Leaf)
    (node : Node) : Type 0 where
  pub left : Leaf
  pub only : IsOnlyLeafOf reduced node left
  pub is : leaf ≡ record { values = way.leaf left.values; on = left.on }
  pub is_leaf : IsLeafOf program leaf
  pub wide : Wide (decided program leaf.on) leaf.values

-- so it is with some leaf
pub record IsStuck
    (program reduced : Program) (way : WayBack) (Wide : Program → List ℚ → Type 0) (node : Node) : Type 0 where
  pub leaf : Leaf
  pub at_leaf : IsStuckAt program reduced way Wide leaf node

-- the box of a node has one leaf, which comes back as this leaf of the program, and that is wide by what is shown
pub record IsWideBack
    (program reduced : Program) (way : WayBack) (node : Node) (leaf : Leaf) (shown : Shown) : Type 0 where
  pub left : Leaf
  pub only : IsOnlyLeafOf reduced node left
  pub is : leaf ≡ record { values = way.leaf left.values; on = left.on }
  pub is_leaf : IsLeafOf program leaf
  pub wide : IsWideBy (decided program leaf.on) leaf.values shown

-- ---- the search

pub record IsSearch
    (program reduced : Program) (way : WayBack) (Wide : Program → List ℚ → Type 0) (start : Option ℚ)
    (state : State) : Type 0 where
  -- the reduced program may be solved in place of the program as read
  pub back : IsWayBack program reduced way
  -- the cost held is that of a feasible point
  pub attained : IfSome state.held (IsAttained program)
  -- each improving point lies in the box of a node, and the nodes' bounds hold in their boxes
  pub cover : IsCover reduced state.held (all_nodes state)
  -- the log is one of the reduced program
  pub logged : AllFollow reduced.integral (first_node reduced start ∷ []) [] state.log
  -- the log gave each node
  pub given : (node : Node)
      → Contains (all_nodes state) node → IsGiven reduced start state.log state.held node
  -- nodes in work and open ones have no entry
  pub unlogged : (node : Node) → Contains (unended state) node → HasNoEntry state.log node.number
  -- and different numbers
  pub apart : AreApart (unended state)
  -- the entries of parked nodes are those of the nodes that are parked, in their order
  pub parked : parked_entries state.log ≡ map parked_entry state.parked
  -- and each of these leads back to a wide leaf of the program
  pub stuck : (node : Node)
      → Contains state.parked node → LeadsToWide program reduced Wide state.held node
  -- the bound that the log gives a node holds in the box that it gives it
  pub bounds : (number : ℕ) (node : Node)
      → node_of (nodes_given reduced start state.log) number ≡ Some node
      → IfSome node.bound (IsBoundIn reduced state.held node.box)
  -- each entry is right of its node
  pub entries : (entry : Entry) (node : Node)
      → Contains state.log entry → node_of (nodes_given reduced start state.log) entry.node ≡ Some node
      → IsRightEntry reduced state.held node entry
  -- a node that is open by the log, and matters beside the cost held, is in work or open
  pub complete : (node : Node)
      → IsLeftOpen reduced start state.log node → matters state.held node.bound ≡ true
      → HasNumber (unended state) node.number

-- an open node has the bound that the log gave it
pub record IsAsGiven (reduced : Program) (start : Option ℚ) (state : State) : Type 0 where
  pub bounds : (node given : Node)
      → Contains state.open_ node
      → node_of (nodes_given reduced start state.log) node.number ≡ Some given → node.bound ≡ given.bound

-- no box was changed since the log gave it
pub record HasGivenBoxes (reduced : Program) (start : Option ℚ) (state : State) : Type 0 where
  pub boxes : (node given : Node)
      → Contains (all_nodes state) node
      → node_of (nodes_given reduced start state.log) node.number ≡ Some given → node.box ≡ given.box
