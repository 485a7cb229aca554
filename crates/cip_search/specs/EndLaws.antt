-- What the end of a search says of its answer, and which parked node is shown, each as one statement: the functions of
-- `src/search_ends.rt` have them as contracts.
use Rattle.std.specs.Prelude.{◌≡◌, ◌≢◌, ◌↔◌, ℕ, List, [], ◌∷◌, ◌++◌, Option, None, IfSome, IsSome, length, ⊤}
use Rattle.std.specs.List.{Contains}
use Rattle.cip_rational.specs.Rational.{ℚ}
use Rattle.cip_problem.specs.Program.{Program}
use Rattle.cip_problem.specs.Choices.{decided}
use Rattle.cip_problem.specs.Log.{Node}
use Rattle.cip_search.specs.Leaf.{Leaf, IsLeafOf}
use Rattle.cip_search.specs.Searched.{NoMore}
use Rattle.cip_search.specs.WideLeaf.{Shown, IsWideBy, IsWideLeaf}
use Rattle.cip_search.specs.SearchState.{State, WayBack, stay, all_nodes, LeadsBackTo, IsWideBack, IsSearch, IsAsGiven}
use Rattle.cip_search.specs.Endings.{OneMatters, NoneMatters, IsLeastBound}
use Rattle.cip_search.specs.SearchEnds.{Ended, Optimal, Infeasible, Unbounded, NodeLimit, Gap, Wide, NoMemory, Answer, cost_of_held, IsHeldPoint, ReachesGap, IsAnswer}

-- of the parked nodes this is the one of least bound, and the first of these
pub record IsFirstLeastNode (parked : List Node) (node : Node) : Type 0 where
  pub before : List Node
  pub after : List Node
  pub placed : parked ≡ before ++ node ∷ after
  pub least : (other : Node) → Contains parked other → NoMore node.bound other.bound
  pub first : (other : Node) → Contains before other → ¬ NoMore other.bound node.bound

-- the improving points in the box of the parked node of least bound, the first of these, lead back to this leaf of the
-- program, which is wide by what is shown
pub record IsShownNode
    (program reduced : Program) (held : Option ℚ) (parked : List Node) (leaf : Leaf) (shown : Shown) : Type 0 where
  pub node : Node
  pub chosen : IsFirstLeastNode parked node
  pub leads : LeadsBackTo program reduced held node leaf
  pub is_leaf : IsLeafOf program leaf
  pub wide : IsWideBy (decided program leaf.on) leaf.values shown

-- how a search with no node in work comes to an end that isn't unbounded
abbrev pub ComesTo : (program reduced : Program) → (nodes : ℕ) → State → Ended → Type 0
ComesTo program reduced nodes state Optimal =
    NoneMatters state.held state.open_ × NoneMatters state.held state.parked × IsSome state.held
ComesTo program reduced nodes state Infeasible = (all_nodes state ≡ []) × (state.held ≡ None)
ComesTo program reduced nodes state (Unbounded ray) = ⊥
ComesTo program reduced nodes state NodeLimit = (length state.log ≡ nodes) × OneMatters state.held state.open_
ComesTo program reduced nodes state Gap = IsSome state.held
ComesTo program reduced nodes state (Wide leaf shown) =
    NoneMatters state.held state.open_ × OneMatters state.held state.parked
    × IsShownNode program reduced state.held state.parked leaf shown
ComesTo program reduced nodes state NoMemory = ⊤

-- an answer is that of a search which stands so: the point held, the least of its cost and of the nodes' bounds, unless
-- it is infeasible, and an end to which the search comes
pub record IsAnswerOf
    (program reduced : Program) (nodes : ℕ) (asked : Option ℚ) (state : State) (answer : Answer) : Type 0 where
  pub idle : state.work ≡ []
  pub held : state.held ≡ cost_of_held answer.held
  pub point : IfSome answer.held (IsHeldPoint program)
  pub comes : ComesTo program reduced nodes state answer.ended
  pub least : answer.ended ≢ Infeasible → IsLeastBound state.held (all_nodes state) answer.bound
  pub no_bound : answer.ended ≡ Infeasible → answer.bound ≡ None
  pub gap : answer.ended ≢ NoMemory → (answer.ended ≡ Gap) ↔ ReachesGap asked (cost_of_held answer.held) answer.bound

-- where the program is searched itself, it is right
abbrev pub EndsAreRight : Type 0
EndsAreRight =
    (program : Program) (start : Option ℚ) (nodes : ℕ) (asked : Option ℚ) (state : State) (answer : Answer)
    → IsSearch program program stay IsWideLeaf start state → IsAsGiven program start state
    → IsAnswerOf program program nodes asked state answer → IsAnswer program start nodes asked state.log answer

-- the parked node of least bound is shown by the leaf that it was put aside for
abbrev pub StuckNodesAreShown : Type 0
StuckNodesAreShown =
    (program reduced : Program) (way : WayBack) (start : Option ℚ) (state : State) (node : Node) (leaf : Leaf)
    (shown : Shown) → IsSearch program reduced way IsWideLeaf start state → IsFirstLeastNode state.parked node
    → IsWideBack program reduced way node leaf shown
    → IsShownNode program reduced state.held state.parked leaf shown
