-- The log of a tree as that of a search.
use Rattle.std.specs.Prelude.{◌≡◌, ◌↔◌, ℕ, ℤ, Bool, ◌⊎◌, List, [], ◌∷◌, map, Some, Contains}
use Rattle.cip_rational.specs.Rational.{ℚ, IsWhole}
use Rattle.cip_problem.specs.Program.{Choice, Plain, Open, Off, On, Program}
use Rattle.cip_problem.specs.Box.{IsInBox}
use Rattle.cip_problem.specs.Activity.{value_at}
use Rattle.cip_problem.specs.Choices.{choice_at, Allows}
use Rattle.cip_problem.specs.Log.{Entry, Node, root, low_node, high_node, node_of, given_after, AllFollow, IsLog}

-- the entries can follow one another from the root on: of a program with these whole columns whose root this is, they
-- are a search log
abbrev pub IsSearched : List Bool → Node → List Entry → Type 0
IsSearched integral first log = AllFollow integral (first ∷ []) [] log

-- with a program's whole columns and root these are its search logs
abbrev pub SearchedLogsAreLogs : Type 0
SearchedLogsAreLogs =
    (program : Program) (log : List Entry) → IsSearched program.integral (root program) log ↔ IsLog program log

-- no entry is of the node of this number
abbrev pub HasNotEnded : List Entry → ℕ → Type 0
HasNotEnded log number = ¬ Contains (map (λ entry. entry.node) log) number

-- a node is open in the log: it was given with this number and these choices, in a box that holds its own, and has no
-- entry
pub record IsOpenIn (first : Node) (log : List Entry) (node : Node) : Type 0 where
  pub given : Node
  pub number : given.number ≡ node.number
  pub found : node_of (given_after (first ∷ []) log) node.number ≡ Some given
  pub choices_are : given.choices ≡ node.choices
  pub holds : (point : List ℚ) → IsInBox node.box point → IsInBox given.box point
  pub unended : HasNotEnded log node.number

-- a value that points have at a column to be split: whole where that is plain, and allowed where its choice is open
abbrev pub IsValueAt : Choice → ℚ → Type 0
IsValueAt Plain value = IsWhole value
IsValueAt (Open own) value = Allows (Open own) value
IsValueAt Off value = ⊥
IsValueAt On value = ⊥

-- each point of a node's box with such a value at the column lies in one of the halves
abbrev pub HalvesHold : Node → ℕ → ℤ → Type 0
HalvesHold node column at =
    (point : List ℚ) → IsInBox node.box point → IsValueAt (choice_at node.choices column) (value_at point column)
    → IsInBox (low_node node column at).box point ⊎ IsInBox (high_node node column at).box point
