-- The laws, each as one statement: the functions of `src/lib.rt` have them as contracts.
use Rattle.std.specs.Prelude.{◌≡◌, ◌↔◌, ℕ, ◌*◌, ◌-◌, ◌<◌, max, ℤ, Bool, false, List, [], ◌∷◌, ◌++◌, length, Option, None, Some, IfSome}
use Rattle.std.specs.List.{Contains, filter}
use Rattle.std.specs.List.Sorted.{IsPermutation}
use Rattle.cip_rational.specs.Rational.{ℚ, ◌+ℚ◌, ◌≤ℚ◌, ◌<ℚ◌}
use Rattle.cip_problem.specs.Program.{Sides, Row, Program}
use Rattle.cip_problem.specs.Box.{IsInBox}
use Rattle.cip_problem.specs.Points.{IsFeasible, cost_of, IsLowerBound}
use Rattle.cip_problem.specs.Log.{Split, Closed, Parked, Entry, Node, root, low_node, high_node, leaf_count, node_of, CanSplit, AllFollow, IsLog, matters}
use Rattle.cip_search.specs.LinearProgram.{IsOptimal}
use Rattle.cip_problem.specs.Improving.{HoldsInBox, IsBoundIn, HasNoImproving, IsNoDearer}
use Rattle.cip_problem.specs.Cover.{HasBoundFrom}
use Rattle.cip_search.specs.Searched.{first_node, nodes_given, OpenMatters, ParkedMatters, NoMore, IsLeast, IsCovered, AreTrueEntries}
use Rattle.cip_search.specs.Wide.{IsWide}
use Rattle.cip_search.specs.SearchState.{State, WayBack, stay, IsWayBack, unended, all_nodes, IsAttained, IsStuck, IsSearch, IsAsGiven, HasGivenBoxes}
use Rattle.cip_search.specs.Endings.{OneMatters, NoneMatters, HasWidePoint, IsLeastBound}
use Rattle.cip_search.specs.Relaxation.{relaxation, IsRelaxedBound}

-- ---- steps

-- the entry of a node that was closed, and of one that was split into halves of these numbers
abbrev pub closed_entry : Node → Entry
closed_entry node = record { node = node.number; bound = node.bound; end = Closed }

abbrev pub split_entry : Node → ℕ → ℤ → ℕ → ℕ → Entry
split_entry node column at low high = record { node = node.number; bound = node.bound; end = Split column at low high }

-- the halves of a node, with its bound
pub record AreHalves (node : Node) (column : ℕ) (at : ℤ) (low high : Node) : Type 0 where
  pub low_box : low.box ≡ (low_node node column at).box
  pub high_box : high.box ≡ (high_node node column at).box
  pub low_choices : low.choices ≡ (low_node node column at).choices
  pub high_choices : high.choices ≡ (high_node node column at).choices
  pub low_bound : low.bound ≡ node.bound
  pub high_bound : high.bound ≡ node.bound

-- a search begins with its root open; what holds of one goes on holding
pub record StepsKeepSearches
    (program reduced : Program) (way : WayBack) (Wide : Program → List ℚ → Type 0)
    (start : Option ℚ) : Type 0 where
  pub begun : (held : Option ℚ)
      → IsWayBack program reduced way → IfSome held (IsAttained program)
      → IfSome start (IsBoundIn reduced held reduced.bounds)
      → IsSearch program reduced way Wide start (record {
        held = held;
        work = [];
        open_ = first_node reduced start ∷ [];
        parked = [];
        log = [];
      })
  -- as an open node is taken up
  pub taken : (state : State) (node : Node) (open_ : List Node)
      → IsPermutation state.open_ (node ∷ open_) → IsSearch program reduced way Wide start state
      → IsSearch program reduced way Wide start (record state { work = node ∷ state.work; open_ = open_ })
  -- as the bound of a node in work rises to one that holds in its box
  pub raised : (state : State) (node : Node) (work : List Node) (b : ℚ)
      → state.work ≡ node ∷ work → IsBoundIn reduced state.held node.box b → NoMore node.bound (Some b)
      → IsSearch program reduced way Wide start state
      → IsSearch program reduced way Wide start (record state { work = record node { bound = Some b } ∷ work })
  -- as the box of a node in work shrinks to one that holds its improving points
  pub tightened : (state : State) (node : Node) (work : List Node) (box : List Sides)
      → state.work ≡ node ∷ work → ((point : List ℚ) → IsInBox box point → IsInBox node.box point)
      → HoldsInBox reduced state.held node.box (IsInBox box)
      → IsSearch program reduced way Wide start state
      → IsSearch program reduced way Wide start (record state { work = record node { box = box } ∷ work })
  -- as a node in work is closed whose box has no improving point
  pub closed : (state : State) (node : Node) (work : List Node)
      → state.work ≡ node ∷ work → HasNoImproving reduced state.held node.box
      → IsSearch program reduced way Wide start state
      → IsSearch program reduced way Wide start
      (record state { work = work; log = state.log ++ closed_entry node ∷ [] })
  -- as a node in work is closed whose bound is not below the cost held
  pub pruned : (state : State) (node : Node) (work : List Node)
      → state.work ≡ node ∷ work → matters state.held node.bound ≡ false
      → IsSearch program reduced way Wide start state
      → IsSearch program reduced way Wide start
      (record state { work = work; log = state.log ++ closed_entry node ∷ [] })
  -- as a node in work is put aside that is a wide leaf
  pub parked : (state : State) (node : Node) (work : List Node)
      → state.work ≡ node ∷ work → IsStuck program reduced way Wide node
      → IsSearch program reduced way Wide start state
      → IsSearch program reduced way Wide start (record state {
        work = work;
        parked = state.parked ++ node ∷ [];
        log = state.log ++ record { node = node.number; bound = node.bound; end = Parked } ∷ [];
      })
  -- as a node in work is split, where the log goes on being one
  pub split : (state : State) (node low high : Node) (work open_ : List Node) (column : ℕ) (at : ℤ)
      → state.work ≡ node ∷ work → CanSplit reduced.integral node column at → AreHalves node column at low high
      → IsPermutation (low ∷ high ∷ state.open_) open_
      → AllFollow reduced.integral (first_node reduced start ∷ []) []
      (state.log ++ split_entry node column at low.number high.number ∷ [])
      → IsSearch program reduced way Wide start state
      → IsSearch program reduced way Wide start (record state {
        work = work;
        open_ = open_;
        log = state.log ++ split_entry node column at low.number high.number ∷ [];
      })
  -- as a cheaper point is held
  pub offered : (state : State) (cost : ℚ)
      → IsAttained program cost → IsNoDearer (Some cost) state.held
      → IsSearch program reduced way Wide start state
      → IsSearch program reduced way Wide start (record state { held = Some cost })
  -- as open nodes are let go that have the bounds that the log gave them, and none of which matters
  pub closed_from : (state : State) (open_ : List Node) (stays : Node → Bool)
      → ((node : Node) → stays node ≡ matters state.held node.bound)
      → IsPermutation (filter stays state.open_) open_ → IsAsGiven reduced start state
      → IsSearch program reduced way Wide start state
      → IsSearch program reduced way Wide start (record state { open_ = open_ })
  -- as a node in work is open again
  pub put_back : (state : State) (node : Node) (work open_ : List Node)
      → state.work ≡ node ∷ work → IsPermutation (node ∷ state.open_) open_
      → IsSearch program reduced way Wide start state
      → IsSearch program reduced way Wide start (record state { work = work; open_ = open_ })
  -- in whatever order the nodes stand
  pub reordered : (state : State) (work open_ : List Node)
      → IsPermutation state.work work → IsPermutation state.open_ open_
      → IsSearch program reduced way Wide start state
      → IsSearch program reduced way Wide start (record state { work = work; open_ = open_ })

-- the bounds of open nodes stay as the log gave them, where a node goes back with its own bound
pub record StepsKeepGiven
    (program reduced : Program) (way : WayBack) (Wide : Program → List ℚ → Type 0)
    (start : Option ℚ) : Type 0 where
  pub begun : (held : Option ℚ) → IsAsGiven reduced start (record {
    held = held;
    work = [];
    open_ = first_node reduced start ∷ [];
    parked = [];
    log = [];
  })
  pub taken : (state : State) (node : Node) (open_ : List Node)
      → IsPermutation state.open_ (node ∷ open_) → IsAsGiven reduced start state
      → IsAsGiven reduced start (record state { work = node ∷ state.work; open_ = open_ })
  pub raised : (state : State) (node : Node) (work : List Node) (b : Option ℚ)
      → state.work ≡ node ∷ work → IsAsGiven reduced start state
      → IsAsGiven reduced start (record state { work = record node { bound = b } ∷ work })
  pub closed : (state : State) (node : Node) (work : List Node)
      → state.work ≡ node ∷ work → IsSearch program reduced way Wide start state
      → IsAsGiven reduced start state
      → IsAsGiven reduced start (record state { work = work; log = state.log ++ closed_entry node ∷ [] })
  pub parked : (state : State) (node : Node) (work : List Node)
      → state.work ≡ node ∷ work → IsSearch program reduced way Wide start state
      → IsAsGiven reduced start state
      → IsAsGiven reduced start (record state {
        work = work;
        parked = state.parked ++ node ∷ [];
        log = state.log ++ record { node = node.number; bound = node.bound; end = Parked } ∷ [];
      })
  pub split : (state : State) (node low high : Node) (work open_ : List Node) (column : ℕ) (at : ℤ)
      → state.work ≡ node ∷ work → CanSplit reduced.integral node column at → AreHalves node column at low high
      → IsPermutation (low ∷ high ∷ state.open_) open_
      → AllFollow reduced.integral (first_node reduced start ∷ []) []
      (state.log ++ split_entry node column at low.number high.number ∷ [])
      → IsSearch program reduced way Wide start state → IsAsGiven reduced start state
      → IsAsGiven reduced start (record state {
        work = work;
        open_ = open_;
        log = state.log ++ split_entry node column at low.number high.number ∷ [];
      })
  pub offered : (state : State) (held : Option ℚ)
      → IsAsGiven reduced start state → IsAsGiven reduced start (record state { held = held })
  pub closed_from : (state : State) (open_ : List Node) (stays : Node → Bool)
      → IsPermutation (filter stays state.open_) open_ → IsAsGiven reduced start state
      → IsAsGiven reduced start (record state { open_ = open_ })
  pub put_back : (state : State) (node : Node) (work open_ : List Node)
      → state.work ≡ node ∷ work → IsPermutation (node ∷ state.open_) open_
      → ((given : Node) → node_of (nodes_given reduced start state.log) node.number ≡ Some given
      → node.bound ≡ given.bound)
      → IsAsGiven reduced start state → IsAsGiven reduced start (record state { work = work; open_ = open_ })

-- boxes stay as the log gave them, where none is changed
pub record StepsKeepBoxes
    (program reduced : Program) (way : WayBack) (Wide : Program → List ℚ → Type 0)
    (start : Option ℚ) : Type 0 where
  pub begun : (held : Option ℚ) → HasGivenBoxes reduced start (record {
    held = held;
    work = [];
    open_ = first_node reduced start ∷ [];
    parked = [];
    log = [];
  })
  pub taken : (state : State) (node : Node) (open_ : List Node)
      → IsPermutation state.open_ (node ∷ open_) → HasGivenBoxes reduced start state
      → HasGivenBoxes reduced start (record state { work = node ∷ state.work; open_ = open_ })
  pub raised : (state : State) (node : Node) (work : List Node) (b : Option ℚ)
      → state.work ≡ node ∷ work → HasGivenBoxes reduced start state
      → HasGivenBoxes reduced start (record state { work = record node { bound = b } ∷ work })
  pub closed : (state : State) (node : Node) (work : List Node)
      → state.work ≡ node ∷ work → IsSearch program reduced way Wide start state
      → HasGivenBoxes reduced start state
      → HasGivenBoxes reduced start (record state { work = work; log = state.log ++ closed_entry node ∷ [] })
  pub parked : (state : State) (node : Node) (work : List Node)
      → state.work ≡ node ∷ work → IsSearch program reduced way Wide start state
      → HasGivenBoxes reduced start state
      → HasGivenBoxes reduced start (record state {
        work = work;
        parked = state.parked ++ node ∷ [];
        log = state.log ++ record { node = node.number; bound = node.bound; end = Parked } ∷ [];
      })
  pub split : (state : State) (node low high : Node) (work open_ : List Node) (column : ℕ) (at : ℤ)
      → state.work ≡ node ∷ work → CanSplit reduced.integral node column at → AreHalves node column at low high
      → IsPermutation (low ∷ high ∷ state.open_) open_
      → AllFollow reduced.integral (first_node reduced start ∷ []) []
      (state.log ++ split_entry node column at low.number high.number ∷ [])
      → IsSearch program reduced way Wide start state → HasGivenBoxes reduced start state
      → HasGivenBoxes reduced start (record state {
        work = work;
        open_ = open_;
        log = state.log ++ split_entry node column at low.number high.number ∷ [];
      })
  pub offered : (state : State) (held : Option ℚ)
      → HasGivenBoxes reduced start state → HasGivenBoxes reduced start (record state { held = held })
  pub closed_from : (state : State) (open_ : List Node) (stays : Node → Bool)
      → IsPermutation (filter stays state.open_) open_ → HasGivenBoxes reduced start state
      → HasGivenBoxes reduced start (record state { open_ = open_ })
  pub put_back : (state : State) (node : Node) (work open_ : List Node)
      → state.work ≡ node ∷ work → IsPermutation (node ∷ state.open_) open_
      → HasGivenBoxes reduced start state → HasGivenBoxes reduced start (record state { work = work; open_ = open_ })

-- ---- ways back

-- a program that is searched itself stays as it is, and a search is one by each way back that there is
pub record WaysAreFree
    (program reduced : Program) (way other : WayBack) (Wide : Program → List ℚ → Type 0)
    (start : Option ℚ) : Type 0 where
  pub stays : IsWayBack program program stay
  pub by_other : (state : State)
      → IsWayBack program reduced other → IsSearch program reduced way Wide start state
      → IsSearch program reduced other Wide start state

-- ---- ends

-- what a search says of the program as read
pub record SearchesTell
    (program reduced : Program) (way : WayBack) (Wide : Program → List ℚ → Type 0)
    (start : Option ℚ) : Type 0 where
  -- where nothing is held and no node is left, neither program has a feasible point
  pub no_point : (state : State)
      → IsSearch program reduced way Wide start state → state.held ≡ None → all_nodes state ≡ []
      → (point : List ℚ) → ¬ IsFeasible program point
  pub no_reduced_point : (state : State)
      → IsSearch program reduced way Wide start state → state.held ≡ None → all_nodes state ≡ []
      → (point : List ℚ) → ¬ IsFeasible reduced point
  -- where no node matters, no feasible point is cheaper than the cost held
  pub nothing_cheaper : (state : State) (cost : ℚ)
      → IsSearch program reduced way Wide start state → state.held ≡ Some cost
      → NoneMatters state.held (all_nodes state) → IsLowerBound program cost
  -- what neither the cost held nor a bound is below, no feasible point costs less than
  pub bound : (state : State) (b : ℚ)
      → IsSearch program reduced way Wide start state → IfSome state.held (λ cost. b ≤ℚ cost)
      → ((node : Node) → Contains (all_nodes state) node → HasBoundFrom b node) → IsLowerBound program b
  -- where no node in work and no open one matters, a feasible point that is cheaper than the cost held has one that is
  -- no dearer in a wide leaf
  pub wide : (state : State) (point : List ℚ)
      → IsSearch program reduced way Wide start state → NoneMatters state.held (unended state)
      → IsFeasible program point → IfSome state.held (λ cost. cost_of program point <ℚ cost)
      → HasWidePoint program Wide (cost_of program point)

-- what the log of a search says of the reduced program
pub record SearchLogsTell
    (program reduced : Program) (way : WayBack) (Wide : Program → List ℚ → Type 0)
    (start : Option ℚ) : Type 0 where
  pub is_log : (state : State) → IsSearch program reduced way Wide start state → IsLog reduced state.log
  pub covered : (state : State)
      → IsSearch program reduced way Wide start state → IsCovered reduced start state.log state.held
  -- the least of the cost held and of the bounds of all nodes is that of the log
  pub least : (state : State) (bound : Option ℚ)
      → IsSearch program reduced way Wide start state → IsAsGiven reduced start state → state.work ≡ []
      → IsLeastBound state.held (all_nodes state) bound → IsLeast reduced start state.log state.held bound
  -- an open node matters by the log exactly where one of the search does, and so does a parked one
  pub open_matters : (state : State)
      → IsSearch program reduced way Wide start state → IsAsGiven reduced start state → state.work ≡ []
      → OneMatters state.held state.open_ ↔ OpenMatters reduced start state.log state.held
  pub parked_matters : (state : State)
      → IsSearch program reduced way Wide start state
      → OneMatters state.held state.parked ↔ ParkedMatters state.log state.held
  -- while a node is left that has not ended, there are fewer entries than a search takes nodes at most
  pub short : (state : State) (node : Node) (n : ℕ)
      → IsSearch program reduced way Wide start state → Contains (unended state) node
      → leaf_count reduced.integral (root reduced) ≡ Some n → length state.log < max 1 (2 * n - 1)

-- where the program is searched itself, the entries of the log are true ones
abbrev pub EntriesAreTrue : Type 0
EntriesAreTrue =
    (program : Program) (start : Option ℚ) (state : State)
    → IsSearch program program stay IsWide start state
    → AreTrueEntries program IsWide start state.log state.held

-- ---- bounds of the linear program

-- what bounds of the linear program of a box say: they are at least its optimum, a greater one is one too, and so is
-- one with fewer rows in a wider box
pub record RelaxedBoundsHold : Type 0 where
  pub optimum : (program : Program) (rows : List Row) (box : List Sides) (bound : Option ℚ) (point : List ℚ) (cost : ℚ)
      → IsRelaxedBound program rows box bound → IsOptimal (relaxation program rows box) point cost
      → NoMore (Some (program.constant +ℚ cost)) bound
  pub greater : (program : Program) (rows : List Row) (box : List Sides) (bound more : Option ℚ)
      → NoMore bound more → IsRelaxedBound program rows box bound → IsRelaxedBound program rows box more
  pub wider : (program : Program) (rows : List Row) (inner outer : List Sides) (bound : Option ℚ)
      → ((point : List ℚ) → IsInBox inner point → IsInBox outer point)
      → IsRelaxedBound program rows inner bound → IsRelaxedBound program [] outer bound
