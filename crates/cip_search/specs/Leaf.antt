-- Leaves of a program: one whole value within bounds for each whole column, and a choice for each semi-continuous one.
-- What is left of the program then has the continuous columns alone, each between two sides.
use Rattle.std.specs.Prelude.{◌≡◌, Bool, true, false, List, [], ◌∷◌, length}
use Rattle.std.specs.List.{AllZip}
use Rattle.cip_rational.specs.Rational.{ℚ, IsWhole}
use Rattle.cip_problem.specs.Program.{Sides, Program}
use Rattle.cip_problem.specs.Box.{Between}
use Rattle.cip_problem.specs.Points.{IsFeasible}
use Rattle.cip_problem.specs.Choices.{AreMade, open_count, decided, made_on}
use Rattle.cip_problem.specs.Log.{Node}

-- of a list with an entry for each column, the entries of the whole columns
abbrev pub at_wholes : {X : Type 0} → List Bool → List X → List X
at_wholes [] entries = []
at_wholes (whole ∷ wholes) [] = []
at_wholes (true ∷ wholes) (entry ∷ entries) = entry ∷ at_wholes wholes entries
at_wholes (false ∷ wholes) (entry ∷ entries) = at_wholes wholes entries

-- a value is whole and lies between the sides
pub record IsWholeBetween (sides : Sides) (value : ℚ) : Type 0 where
  pub between : Between sides.low sides.high value
  pub whole : IsWhole value

-- one whole value between the sides for each whole column, by rising column
abbrev pub IsLeafIn : List Bool → List Sides → List ℚ → Type 0
IsLeafIn integral box leaf = AllZip IsWholeBetween (at_wholes integral box) leaf

-- whole values are a leaf of a program without open choices: they lie within the program's bounds
abbrev pub IsLeaf : Program → List ℚ → Type 0
IsLeaf program leaf = IsLeafIn program.integral program.bounds leaf

-- a point of such a leaf: a feasible point with these values
pub record IsPointOf (program : Program) (leaf point : List ℚ) : Type 0 where
  pub feasible : IsFeasible program point
  pub values : at_wholes program.integral point ≡ leaf

-- a box has one whole assignment, and this leaf is it
pub record IsOnlyLeaf (integral : List Bool) (box : List Sides) (leaf : List ℚ) : Type 0 where
  pub is_leaf : IsLeafIn integral box leaf
  pub only : (other : List ℚ) → IsLeafIn integral box other → other ≡ leaf

-- a leaf: the whole values, and for each semi-continuous column, by rising column, whether it is on
pub record Leaf : Type 0 where
  pub values : List ℚ
  pub on : List Bool

-- a leaf of a program: all choices are made, and the values are a leaf of the program that is left
pub record IsLeafOf (program : Program) (leaf : Leaf) : Type 0 where
  pub each : length leaf.on ≡ open_count program.choices
  pub values : IsLeaf (decided program leaf.on) leaf.values

-- a point of a leaf is one of the values in the program that is left
abbrev pub IsPointOfLeaf : Program → Leaf → List ℚ → Type 0
IsPointOfLeaf program leaf point = IsPointOf (decided program leaf.on) leaf.values point

-- the box of a node has one leaf, and this is it: no choice is open, and there is one whole assignment
pub record IsOnlyLeafOf (program : Program) (node : Node) (leaf : Leaf) : Type 0 where
  pub made : AreMade node.choices
  pub on : leaf.on ≡ made_on program.choices node.choices
  pub values : IsOnlyLeaf program.integral node.box leaf.values
