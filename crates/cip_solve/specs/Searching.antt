-- What holds of a search between two nodes, and how it stops. A program that presolve made is searched in place of the
-- program as read: `way` leads back from it. The nodes, the log and the marks are of the reduced program, the point
-- held and rays are of the program as read.
use Rattle.std.specs.Prelude.{◌≡◌, ◌≢◌, ◌⊎◌, ℕ, ◌+◌, ◌*◌, ◌<◌, ◌≤◌, true, false, List, [], ◌∷◌, ◌++◌}
use Rattle.std.specs.Prelude.{Option, None, IfSome, length, take}
use Rattle.cip_rational.specs.Rational.{ℚ}
use Rattle.cip_problem.specs.Program.{Program}
use Rattle.cip_problem.specs.WellFormed.{IsWellFormed}
use Rattle.cip_problem.specs.Points.{IsFeasible, IsLowerBound}
use Rattle.cip_problem.specs.Log.{Entry, Node, AllFollow}
use Rattle.cip_model.specs.Rays.{IsShownRay}
use Rattle.cip_incumbent.specs.HeldPoint.{Holding}
use Rattle.cip_search.specs.Searched.{first_node}
use Rattle.cip_search.specs.Endings.{IsLeastBound}
use Rattle.cip_search.specs.SearchAnswers.{AreRelaxed, AreOfEntries, IsParkedLast}
use Rattle.cip_search.specs.SearchState.{WayBack, HasGivenBoxes}
use Rattle.cip_search.specs.Pairs.{IsPair}
use Rattle.cip_tree.specs.Nodes.{Nodes}
use Rattle.cip_solve.specs.Mark.{Mark}
use Rattle.cip_solve.specs.Beginning.{IsRootBound}
use Rattle.cip_solve.specs.CoreStates.{CoreState, reduced_of, way_of, held_of}
use Rattle.cip_solve.specs.KeptNodes.{cost_held, state_of, IsSearchOf, IsKept, AllMatter, IsHolding}
use Rattle.cip_endings.specs.Gaps.{reaches_gap}
use Rattle.cip_solve.specs.Logs.{numbers_of}
use Rattle.cip_solve.specs.Solved.{AreMet}
use Rattle.cip_solve.specs.Stopping.{WasLeast}
use Rattle.cip_endings.specs.Worst.{IsWorst}
use Rattle.cip_endings.specs.declared.worst.Worst.{Worst}

-- ---- between two nodes

-- with no node in work: the nodes are those of a search whose root had this bound, and each open one matters; the point
-- held is one of the program as read, the worst parked leaf is known, the numbers given are few, and the root is open
-- before a node was taken
pub record IsStill
    (program reduced : Program) (way : WayBack) (start : Option ℚ) (tree : Nodes) (holding : Holding)
    (worst : Option Worst) : Type 0 where
  pub kept : IsKept program reduced way tree (cost_held holding) []
  pub matter : AllMatter (cost_held holding) tree.open_
  pub start_is : tree.root.bound ≡ start
  pub is_held : IsHolding program holding
  pub is_worst : IsWorst program reduced way tree.parked worst
  pub counted : tree.ids ≤ 1 + 2 * length tree.log
  pub begun : tree.log ≡ [] → tree.open_ ≢ []

-- so it is of a core
abbrev pub IsStillAt : CoreState → Option Worst → Type 0
IsStillAt core worst =
    IsStill core.program (reduced_of core) (way_of core) core.tree.root.bound core.tree core.incumbent worst

-- and where no row was added and no side tightened, boxes are those of the log
pub record IsStanding (core : CoreState) (worst : Option Worst) : Type 0 where
  pub still : IsStillAt core worst
  pub boxes : core.touched ≡ false
      → HasGivenBoxes (reduced_of core) core.tree.root.bound (state_of core.tree (held_of core) [])

-- both programs, the steps by which points come back, and the root stay
pub record IsSameSearch (old new : CoreState) : Type 0 where
  pub program : new.program ≡ old.program
  pub reduced : new.reduced ≡ old.reduced
  pub steps : new.steps ≡ old.steps
  pub root : new.tree.root ≡ old.tree.root

-- no node was taken yet, no row was added and no side tightened, and the root has the box bound of the program as read,
-- which holds
pub record IsAtRoot (core : CoreState) : Type 0 where
  pub standing : IsStanding core None
  pub empty : core.tree.log ≡ []
  pub plain : core.touched ≡ false
  pub root : IsRootBound core.program core.tree.root.bound
  pub lower : IfSome core.tree.root.bound (IsLowerBound core.program)

-- nodes were split by bounds that are as good as their linear programs', unless they are marked; and marks are of nodes
-- that were taken
pub record IsTold (reduced : Program) (start : Option ℚ) (log : List Entry) (marks : List (ℕ × Mark)) : Type 0 where
  pub work : AreRelaxed reduced start log (numbers_of marks)
  pub are_of : AreOfEntries log (numbers_of marks)

-- so it is of a core, and where no row was added and no side tightened, marks say what the linear programs of their
-- nodes met
pub record IsWritten (core : CoreState) (marks : List (ℕ × Mark)) : Type 0 where
  pub told : IsTold (reduced_of core) core.tree.root.bound core.tree.log marks
  pub met : core.touched ≡ false → AreMet (reduced_of core) core.tree.root.bound core.tree.log marks

-- ---- how it stops

-- the cost falls without end from a feasible point along a ray, and no sum of its test overflows
pub record IsEndless (program : Program) (point ray : List ℚ) : Type 0 where
  pub feasible : IsFeasible program point
  pub shown : IsShownRay program point ray

-- a gap that was asked for is reached by the cost held and the least bound of nodes
pub record HasReachedGap (asked held : Option ℚ) (nodes : List Node) : Type 0 where
  pub bound : Option ℚ
  pub least : IsLeastBound held nodes bound
  pub reached : reaches_gap asked held bound ≡ true

-- so it is by the nodes of a tree and the cost of the point held
abbrev pub ReachesGapAt : (asked : Option ℚ) → Nodes → Holding → Type 0
ReachesGapAt asked tree holding = HasReachedGap asked (cost_held holding) (tree.open_ ++ tree.parked)

-- no node is open, or the budget is spent, or after a node has ended the gap that was asked for is reached
pub record StopsStill
    (program reduced : Program) (way : WayBack) (start : Option ℚ) (nodes : ℕ) (asked : Option ℚ) (tree : Nodes)
    (holding : Holding) (worst : Option Worst) : Type 0 where
  pub still : IsStill program reduced way start tree holding worst
  pub spent : tree.open_ ≢ [] → (length tree.log ≡ nodes) ⊎ ((tree.log ≢ []) × ReachesGapAt asked tree holding)

-- the last node showed a ray
pub record StopsEndless
    (program reduced : Program) (start : Option ℚ) (log : List Entry) (point ray : List ℚ) : Type 0 where
  pub logged : AllFollow reduced.integral (first_node reduced start ∷ []) [] log
  pub last : IsParkedLast log
  pub falls : IsEndless program point ray

-- memory was refused, and this was the least bound before
pub record StopsRefused
    (program reduced : Program) (way : WayBack) (start : Option ℚ) (tree : Nodes) (holding : Holding)
    (bound : Option ℚ) : Type 0 where
  pub searched : IsSearchOf program reduced way tree (cost_held holding) []
  pub start_is : tree.root.bound ≡ start
  pub was_least : WasLeast program reduced way start tree.log (cost_held holding) bound

-- however it stops: some nodes could be taken, and no more were; the root's bound holds, and the log tells of the work
pub record IsWithin
    (program reduced : Program) (start : Option ℚ) (nodes : ℕ) (log : List Entry) (marks : List (ℕ × Mark)) : Type 0
  where
    pub some : 0 < nodes
    pub most : length log ≤ nodes
    pub lower : IfSome start (IsLowerBound program)
    pub told : IsTold reduced start log marks

-- so it is of a core
abbrev pub IsWithinAt : CoreState → ℕ → List (ℕ × Mark) → Type 0
IsWithinAt core nodes marks =
    IsWithin core.program (reduced_of core) core.tree.root.bound nodes core.tree.log marks

-- ---- behind which nodes the gap wasn't reached

-- the search stood so behind the first entries of its log, as many as are said, and then the gap wasn't reached
pub record WasShortAt
    (program reduced : Program) (way : WayBack) (start asked : Option ℚ) (log : List Entry) (entries : ℕ) : Type 0
  where
    pub tree : Nodes
    pub holding : Holding
    pub worst : Option Worst
    pub still : IsStill program reduced way start tree holding worst
    pub logged : tree.log ≡ take entries log
    pub short : ReachesGapAt asked tree holding → ⊥

-- so it was behind each node but the last
abbrev pub WasShort : (program reduced : Program) → WayBack → (start asked : Option ℚ) → List Entry → Type 0
WasShort program reduced way start asked log =
    (entries : ℕ) → 0 < entries → entries < length log → WasShortAt program reduced way start asked log entries

-- ---- the program as read

-- a reduced program and the program as read are a reduction pair, by which what is done in it can be seen in the
-- program as read, with these numbers for its columns
pub record CanBeSeen (program reduced : Program) (kept : ℕ → ℕ) : Type 0 where
  pub post : List ℚ → List ℚ
  pub pair : IsPair program reduced post kept
  pub formed : IsWellFormed program
  pub left : IsWellFormed reduced
