-- How a search over a program with continuous columns ends, and what its answer says: of the point, the cost, the bound
-- and the end. All figures are those of the minimised form; `start` is the bound of the root, `nodes` the budget, and
-- `asked` the gap that was asked for, if one was.
use Rattle.std.specs.Prelude.{◌≡◌, ◌≢◌, ◌⊎◌, ◌↔◌, ℕ, false, List, [], Option, None, Some, IfSome, IsSome, option_map, length, ⊤}
use Rattle.cip_rational.specs.Rational.{ℚ, ◌-ℚ◌, ◌≤ℚ◌, ◌<ℚ◌}
use Rattle.cip_rational.specs.Range.{difference_overflows}
use Rattle.cip_problem.specs.Program.{Program}
use Rattle.cip_problem.specs.Points.{IsFeasible, cost_of, IsLowerBound}
use Rattle.cip_problem.specs.Choices.{decided}
use Rattle.cip_problem.specs.Log.{Entry, Node, node_of, IsLog}
use Rattle.cip_search.specs.Falling.{FallsWithoutEnd}
use Rattle.cip_search.specs.Leaf.{Leaf, IsLeafOf}
use Rattle.cip_search.specs.Searched.{nodes_given, OpenMatters, ParkedMatters, IsLeast, IsCovered, AreTrueEntries, LeadsTo, IsFirstLeast}
use Rattle.cip_search.specs.WideLeaf.{Shown, IsWideBy, IsWideLeaf}
use Rattle.cip_search.specs.Endings.{HasWidePoint}

-- how a search ended
pub data Ended : Type 0 where
  Optimal : Ended
  Infeasible : Ended
  Unbounded : (ray : List ℚ) → Ended
  NodeLimit : Ended
  Gap : Ended
  Wide : (leaf : Leaf) (shown : Shown) → Ended
  NoMemory : Ended

-- a point with its cost
pub record Held : Type 0 where
  pub cost : ℚ
  pub point : List ℚ

-- what a search answers
pub record Answer : Type 0 where
  pub ended : Ended
  pub held : Option Held
  pub bound : Option ℚ

abbrev pub cost_of_held : Option Held → Option ℚ
cost_of_held held = option_map (λ h. h.cost) held

-- the point held is feasible at its cost
pub record IsHeldPoint (program : Program) (held : Held) : Type 0 where
  pub feasible : IsFeasible program held.point
  pub cost : held.cost ≡ cost_of program held.point

-- a leaf of the parked node of least bound, the first of these, is shown: each improving point of the node has one of
-- the leaf that is no dearer, and the leaf is wide by what is shown
pub record IsShownLeaf
    (program : Program) (start : Option ℚ) (log : List Entry) (held : Option ℚ) (leaf : Leaf) (shown : Shown) : Type 0
  where
    pub entry : Entry
    pub node : Node
    pub chosen : IsFirstLeast log entry
    pub given : node_of (nodes_given program start log) entry.node ≡ Some node
    pub leads : LeadsTo program held node leaf
    pub is_leaf : IsLeafOf program leaf
    pub wide : IsWideBy (decided program leaf.on) leaf.values shown

-- a cost is near enough to a bound: what it is more by is in range, above 0 and at most the gap
pub record IsNearEnough (gap cost least : ℚ) : Type 0 where
  pub fits : difference_overflows cost least ≡ false
  pub above : least <ℚ cost
  pub most : cost -ℚ least ≤ℚ gap

-- a gap was asked for, and it is reached: there are a cost held and a bound, and they are near enough
abbrev pub ReachesGap : (asked held bound : Option ℚ) → Type 0
ReachesGap None held bound = ⊥
ReachesGap (Some gap) None bound = ⊥
ReachesGap (Some gap) (Some cost) None = ⊥
ReachesGap (Some gap) (Some cost) (Some least) = IsNearEnough gap cost least

-- nothing is left: no open node and no parked leaf matters beside the cost held
pub record NothingIsLeft (program : Program) (start : Option ℚ) (log : List Entry) (held : Option ℚ) : Type 0 where
  pub none_open : ¬ OpenMatters program start log held
  pub none_parked : ¬ ParkedMatters log held

-- what the end says: infeasible may have been shown before a node was taken
abbrev pub EndsAs : Program → Option ℚ → (nodes : ℕ) → List Entry → Option Held → Ended → Type 0
EndsAs program start nodes log held Optimal =
    NothingIsLeft program start log (cost_of_held held) × IsSome held
EndsAs program start nodes log held Infeasible =
    (NothingIsLeft program start log (cost_of_held held) ⊎ (log ≡ [])) × (held ≡ None)
EndsAs program start nodes log held (Unbounded ray) = ⊥
EndsAs program start nodes log held NodeLimit =
    (length log ≡ nodes) × OpenMatters program start log (cost_of_held held)
EndsAs program start nodes log held Gap = IsSome held
EndsAs program start nodes log held (Wide leaf shown) =
    (¬ OpenMatters program start log (cost_of_held held)) × ParkedMatters log (cost_of_held held)
    × IsShownLeaf program start log (cost_of_held held) leaf shown
EndsAs program start nodes log held NoMemory = ⊤

-- cost and bound are equal
pub record Agrees (answer : Answer) : Type 0 where
  pub held : Held
  pub is_held : answer.held ≡ Some held
  pub bound : answer.bound ≡ Some held.cost

-- with a point held, a feasible point is cheaper than it; with none, any feasible point is
abbrev pub IsCheaper : Program → Option Held → List ℚ → Type 0
IsCheaper program held point = IfSome held (λ h. cost_of program point <ℚ h.cost)

-- an answer is right that isn't unbounded
pub record IsSettled
    (program : Program) (start : Option ℚ) (nodes : ℕ) (asked : Option ℚ) (log : List Entry) (answer : Answer)
    : Type 0 where
  -- the bound is the least of the cost held and of the bounds of open nodes and parked leaves; after infeasible there
  -- is none; no feasible point costs less
  pub least : answer.ended ≢ Infeasible → IsLeast program start log (cost_of_held answer.held) answer.bound
  pub no_bound : answer.ended ≡ Infeasible → answer.bound ≡ None
  pub bound : IfSome answer.bound (IsLowerBound program)
  -- infeasible is said only where no point is feasible
  pub infeasible : answer.ended ≡ Infeasible → (point : List ℚ) → ¬ IsFeasible program point
  -- cost and bound agree where it is optimal
  pub agree : answer.ended ≡ Optimal → Agrees answer
  -- where a wide leaf is shown, each feasible point cheaper than the one held has one that is no dearer in a wide leaf
  pub wide : (leaf : Leaf) (shown : Shown) → answer.ended ≡ Wide leaf shown
      → (point : List ℚ) → IsFeasible program point → IsCheaper program answer.held point
      → HasWidePoint program IsWideLeaf (cost_of program point)
  -- each end comes where what it says holds
  pub ends : EndsAs program start nodes log answer.held answer.ended
  -- want of memory aside, a gap is answered exactly where it is reached
  pub gap : answer.ended ≢ NoMemory → (answer.ended ≡ Gap) ↔ ReachesGap asked (cost_of_held answer.held) answer.bound
  -- each improving point lies in the box of an open node or of a parked leaf
  pub cover : IsCovered program start log (cost_of_held answer.held)
  -- each entry of the log is a true one
  pub entries : AreTrueEntries program IsWideLeaf start log (cost_of_held answer.held)

-- an answer is unbounded, and right: there is a point from which the cost falls without end along the ray, and no bound
pub record IsUnbounded (program : Program) (answer : Answer) (ray : List ℚ) : Type 0 where
  pub held : Held
  pub is_held : answer.held ≡ Some held
  pub falls : FallsWithoutEnd program held.point ray
  pub no_bound : answer.bound ≡ None

abbrev pub EndHolds : Program → Option ℚ → (nodes : ℕ) → (asked : Option ℚ) → List Entry → Answer → Ended → Type 0
EndHolds program start nodes asked log answer Optimal = IsSettled program start nodes asked log answer
EndHolds program start nodes asked log answer Infeasible = IsSettled program start nodes asked log answer
EndHolds program start nodes asked log answer (Unbounded ray) = IsUnbounded program answer ray
EndHolds program start nodes asked log answer NodeLimit = IsSettled program start nodes asked log answer
EndHolds program start nodes asked log answer Gap = IsSettled program start nodes asked log answer
EndHolds program start nodes asked log answer (Wide leaf shown) = IsSettled program start nodes asked log answer
EndHolds program start nodes asked log answer NoMemory = IsSettled program start nodes asked log answer

-- an answer is right, beside the log of its search
pub record IsAnswer
    (program : Program) (start : Option ℚ) (nodes : ℕ) (asked : Option ℚ) (log : List Entry) (answer : Answer)
    : Type 0 where
  pub point : IfSome answer.held (IsHeldPoint program)
  pub end_ : EndHolds program start nodes asked log answer answer.ended
  pub logged : IsLog program log
