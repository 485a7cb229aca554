-- What a search of a program answers, with its log, as one statement. `start` is the bound of the root, `nodes` the
-- budget, and `marked` the numbers of the nodes whose linear programs showed nothing.
use Rattle.std.specs.Prelude.{◌≡◌, ◌⊎◌, ℕ, ◌≤◌, List, [], ◌∷◌, ◌++◌, Option, None, Some, length, ⊤}
use Rattle.std.specs.List.{Contains}
use Rattle.cip_rational.specs.Rational.{ℚ}
use Rattle.cip_problem.specs.Program.{Program}
use Rattle.cip_problem.specs.Points.{IsFeasible}
use Rattle.cip_problem.specs.WellFormed.{columns}
use Rattle.cip_problem.specs.Log.{End, Split, Closed, Parked, Entry, Node, node_of}
use Rattle.cip_search.specs.Searched.{NoMore, nodes_given}
use Rattle.cip_search.specs.Relaxation.{IsRelaxedBound}
use Rattle.cip_search.specs.SearchEnds.{Ended, Optimal, Infeasible, Unbounded, NodeLimit, Gap, Wide, NoMemory, Answer, IsAnswer}

-- after this end a bound is told, if the root has one
abbrev pub TellsBound : Ended → Type 0
TellsBound Optimal = ⊤
TellsBound Infeasible = ⊥
TellsBound (Unbounded ray) = ⊥
TellsBound NodeLimit = ⊤
TellsBound Gap = ⊤
TellsBound (Wide leaf shown) = ⊤
TellsBound NoMemory = ⊤

-- the last entry of a log says that its node was put aside
pub record IsParkedLast (log : List Entry) : Type 0 where
  pub before : List Entry
  pub entry : Entry
  pub placed : log ≡ before ++ entry ∷ []
  pub parked : entry.end ≡ Parked

-- ---- the work on nodes

abbrev pub IsSplitEnd : End → Type 0
IsSplitEnd (Split column at low high) = ⊤
IsSplitEnd Closed = ⊥
IsSplitEnd Parked = ⊥

-- each node that was split without a mark had a bound that is at least that of the linear program of its box
abbrev pub AreRelaxed : Program → (start : Option ℚ) → List Entry → (marked : List ℕ) → Type 0
AreRelaxed program start log marked =
    (entry : Entry) (node : Node) → Contains log entry → IsSplitEnd entry.end → ¬ Contains marked entry.node
    → node_of (nodes_given program start log) entry.node ≡ Some node → IsRelaxedBound program [] node.box entry.bound

-- numbers are those of entries of a log, at most one of each, in the order of the log
abbrev pub AreOfEntries : List Entry → (numbers : List ℕ) → Type 0
AreOfEntries [] [] = ⊤
AreOfEntries [] (number ∷ numbers) = ⊥
AreOfEntries (entry ∷ log) [] = ⊤
AreOfEntries (entry ∷ log) (number ∷ numbers) =
    ((number ≡ entry.node) × AreOfEntries log numbers) ⊎ AreOfEntries log (number ∷ numbers)

-- ---- the answer

pub record IsSearchAnswer
    (program : Program) (start : Option ℚ) (nodes : ℕ) (asked : Option ℚ) (log : List Entry) (marked : List ℕ)
    (answer : Answer) : Type 0 where
  -- the answer is right beside the log
  pub right : IsAnswer program start nodes asked log answer
  -- no more nodes were taken than the budget allows
  pub within : length log ≤ nodes
  -- the bound is not below that of the root; so it is left out only where the root has none
  pub bound : TellsBound answer.ended → NoMore start answer.bound
  -- unless memory was refused, or no point is feasible, a node was taken
  pub searched : log ≡ [] → (answer.ended ≡ NoMemory) ⊎ (answer.ended ≡ Infeasible)
  -- a ray has a change for each column; the search ended with the node that showed it, which was put aside
  pub long : (ray : List ℚ) → answer.ended ≡ Unbounded ray → length ray ≡ columns program
  pub ray : (ray : List ℚ) → answer.ended ≡ Unbounded ray → IsParkedLast log
  -- nodes were split by bounds that are as good as their linear programs', unless a mark says why not
  pub work : AreRelaxed program start log marked
  pub marks : AreOfEntries log marked

-- where no point is feasible, that is a right answer without a search
abbrev pub EndsAtOnce : Type 0
EndsAtOnce =
    (program : Program) (start : Option ℚ) (nodes : ℕ) (asked : Option ℚ)
    → ((point : List ℚ) → ¬ IsFeasible program point)
    → IsSearchAnswer program start nodes asked [] [] (record { ended = Infeasible; held = None; bound = None })
