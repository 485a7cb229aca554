-- The main laws, each as one statement: the functions of `src/lib.rt` have them as contracts.
use Rattle.std.specs.Prelude.{◌≡◌, ◌⊎◌, ◌↔◌, ℕ, ◌*◌, ◌-◌, ◌≤◌, max, ℤ, Bool, true, false, List, [], ◌∷◌, length, Option, Some, IfSome, slice_get}
use Rattle.cip_rational.specs.Rational.{ℚ, ◌≤ℚ◌, IsWhole}
use Rattle.cip_problem.specs.Program.{Sides, Program}
use Rattle.cip_problem.specs.WellFormed.{IsWellFormed}
use Rattle.cip_problem.specs.Box.{Between, HasOneValue, IsInBox, low_inside, high_inside, sides_inside, box_inside, two_wholes_between, sides_equal, is_between}
use Rattle.cip_problem.specs.BoxBound.{box_bound}
use Rattle.cip_problem.specs.Choices.{choice_at, KeepsChoices, met, AreMade, open_count, AreStillOpen, decided, made_on}
use Rattle.cip_problem.specs.Points.{AreWhole, IsFeasible, cost_of, IsLowerBound}
use Rattle.cip_problem.specs.Wholes.{plus, AtMost, HasTwoWholes}
use Rattle.cip_problem.specs.Log.{Entry, Node, root, low_node, high_node, leaf_count, node_of, given_after, CanSplitAt, CanSplit, AllFollow, IsLog}

-- a point of a node's box whose whole columns have whole values, and whose values the choices allow, is in one of the
-- halves
abbrev pub HalvesCover : Type 0
HalvesCover =
    (integral : List Bool) (node : Node) (column : ℕ) (at : ℤ) (point : List ℚ)
    → IsInBox node.box point → AreWhole integral point → KeepsChoices node.choices point
    → CanSplitAt (choice_at node.choices column) (slice_get integral column)
    → IsInBox (low_node node column at).box point ⊎ IsInBox (high_node node column at).box point

-- a point of either half is one of the node's box
pub record HalvesWithin : Type 0 where
  pub low : (integral : List Bool) (node : Node) (column : ℕ) (at : ℤ) (point : List ℚ)
      → CanSplit integral node column at → IsInBox (low_node node column at).box point → IsInBox node.box point
  pub high : (integral : List Bool) (node : Node) (column : ℕ) (at : ℤ) (point : List ℚ)
      → CanSplit integral node column at → IsInBox (high_node node column at).box point → IsInBox node.box point

-- the halves have no more leaves together than the node
abbrev pub HalvesCount : Type 0
HalvesCount =
    (integral : List Bool) (node : Node) (column : ℕ) (at : ℤ) → CanSplit integral node column at
    → AtMost
    (plus (leaf_count integral (low_node node column at)) (leaf_count integral (high_node node column at)))
    (leaf_count integral node)

-- what lies between sides that are met lies between both
abbrev pub SidesMeet : Type 0
SidesMeet =
    (sides others : Sides) (value : ℚ)
    → Between (met sides others).low (met sides others).high value
    ↔ (Between sides.low sides.high value × Between others.low others.high value)

-- a point is feasible in the program that is left where each choice is made
pub record IsDecided (program : Program) (point : List ℚ) : Type 0 where
  pub on : List Bool
  pub each : length on ≡ open_count program.choices
  pub feasible : IsFeasible (decided program on) point

-- choices are made: each feasible point is one where they are, and such a point is feasible; and the program that is
-- left is well-formed
pub record ChoicesAreMade : Type 0 where
  pub made : (program : Program) (point : List ℚ) → IsFeasible program point → IsDecided program point
  pub feasible : (program : Program) (on : List Bool) (point : List ℚ)
      → IsWellFormed program → length on ≡ open_count program.choices
      → IsFeasible (decided program on) point → IsFeasible program point
  pub formed : (program : Program) (on : List Bool) → IsWellFormed program → IsWellFormed (decided program on)

-- a node is one of a program: its box lies in the program's, its open choices are the program's own, and where none is
-- open its box lies in that of the program in which the choices are made so
pub record IsNodeOf (program : Program) (node : Node) : Type 0 where
  pub within : (point : List ℚ) → IsInBox node.box point → IsInBox program.bounds point
  pub still_open : AreStillOpen program.choices node.choices
  pub made : AreMade node.choices
      → (point : List ℚ) → IsInBox node.box point
      → IsInBox (decided program (made_on program.choices node.choices)).bounds point

-- each node that a log gives is one of the program, whatever the bound of the first is
abbrev pub LogsGiveNodes : Type 0
LogsGiveNodes =
    (program : Program) (start : Option ℚ) (log : List Entry) (number : ℕ) (node : Node)
    → AllFollow program.integral (record (root program) { bound = start } ∷ []) [] log
    → node_of (given_after (record (root program) { bound = start } ∷ []) log) number ≡ Some node
    → IsNodeOf program node

-- no point of a box costs less than the box bound, and so no feasible point less than that of the program's own box
pub record BoxBoundHolds : Type 0 where
  pub in_box : (program : Program) (box : List Sides) (point : List ℚ) (b : ℚ)
      → length program.costs ≡ length box → IsInBox box point
      → box_bound program box ≡ Some b → b ≤ℚ cost_of program point
  pub feasible : (program : Program) (b : ℚ)
      → IsWellFormed program → box_bound program program.bounds ≡ Some b → IsLowerBound program b

-- what lies between sides inside others lies between those, and a point of a box inside another is a point of that
pub record InnerBoxes : Type 0 where
  pub low : (own outer : Option ℚ) (value : ℚ)
      → low_inside own outer ≡ true
      → IfSome own (λ side. side ≤ℚ value) → IfSome outer (λ side. side ≤ℚ value)
  pub high : (own outer : Option ℚ) (value : ℚ)
      → high_inside own outer ≡ true
      → IfSome own (λ side. value ≤ℚ side) → IfSome outer (λ side. value ≤ℚ side)
  pub sides : (own outer : Sides) (value : ℚ)
      → sides_inside own outer ≡ true → Between own.low own.high value → Between outer.low outer.high value
  pub boxes : (own outer : List Sides) (point : List ℚ)
      → length own ≡ length outer → box_inside own outer ≡ true → IsInBox own point → IsInBox outer point

-- what the tests of two sides say of the values between them
pub record SideTests : Type 0 where
  pub between : (low high : Option ℚ) (value : ℚ)
      → (is_between low high value ≡ true) ↔ Between low high value
  pub equal : (low high : Option ℚ) → sides_equal low high ≡ true → HasOneValue low high
  pub two_wholes : (low high : Option ℚ) → two_wholes_between low high ≡ true → HasTwoWholes low high
  pub one_whole : (low high : Option ℚ) (v w : ℚ)
      → two_wholes_between low high ≡ false → IsWhole v → IsWhole w
      → Between low high v → Between low high w → v ≡ w

-- the log of a search over a program whose box has n leaves has at most 2 n - 1 entries, or one
abbrev pub LogsAreShort : Type 0
LogsAreShort =
    (program : Program) (log : List Entry) (n : ℕ)
    → IsLog program log → leaf_count program.integral (root program) ≡ Some n
    → length log ≤ max 1 (2 * n - 1)
