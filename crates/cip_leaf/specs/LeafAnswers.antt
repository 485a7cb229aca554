-- What is answered of a leaf, and of its values where the choices are made.
use Rattle.std.specs.Prelude.{◌≡◌, ℕ, List, length}
use Rattle.cip_rational.specs.Rational.{ℚ, ◌≤ℚ◌}
use Rattle.cip_problem.specs.Program.{Row, Program}
use Rattle.cip_problem.specs.Points.{cost_of}
use Rattle.cip_problem.specs.LinearProgram.{LinearProgram, IsOptimal}
use Rattle.cip_problem.specs.Falling.{FallsWithoutEnd}
use Rattle.cip_bland.specs.declared.moves.Move.{Move}
use Rattle.cip_bland.specs.EndAnswers.{Certificate, Optimal, Unbounded, OutOfRange}
use Rattle.cip_bland.specs.NoRepeat.{whole_answer}
use Rattle.cip_problem.specs.Choices.{decided}
use Rattle.cip_search.specs.Leaf.{IsPointOf, Leaf, IsPointOfLeaf}
use Rattle.cip_search.specs.Wide as wide
use Rattle.cip_search.specs.LeafProgram.{program_of_leaf}
use Rattle.cip_search.specs.WideLeaf as wide_leaf
use Rattle.cip_model.specs.declared.verdicts.Place.{Place}
use Rattle.cip_model.specs.declared.verdicts.Place.TheVariants.{Row as AtRow, Cost}
use Rattle.cip_model.specs.declared.verdicts.Verdict.TheVariants.{Feasible}
use Rattle.cip_model.specs.Meaning.{RowOverflows}
use Rattle.cip_model.specs.Rays.{IsShownRay}
use Rattle.cip_model.specs.Verdicts.{verdict_of}
use Rattle.cip_leaf.specs.declared.answers.Shown.{Shown}
use Rattle.cip_leaf.specs.declared.answers.Shown.TheVariants as shown
use Rattle.cip_leaf.specs.declared.answers.LeafAnswer.{LeafAnswer}
use Rattle.cip_leaf.specs.declared.answers.LeafAnswer.TheVariants.{Best, NoPoint, Unbounded as HasRay, Wide}

-- a place, and what is shown, as the definitions have them
abbrev pub place_of : Place → wide.Place
place_of (AtRow number) = wide.InRow number
place_of Cost = wide.InCost

abbrev pub shown_as : Shown → wide_leaf.Shown
shown_as (shown.Place place) = wide_leaf.AtPlace (place_of place)
shown_as (shown.Moves number) = wide_leaf.AfterMoves number

-- a point of a leaf is found to be feasible at this cost, and no point of the leaf costs less
pub record IsBest (program : Program) (leaf : Leaf) (point : List ℚ) (cost : ℚ) : Type 0 where
  pub is_point : IsPointOfLeaf program leaf point
  pub found : verdict_of program point ≡ Feasible cost
  pub cost_is : cost ≡ cost_of program point
  pub least : (other : List ℚ) → IsPointOfLeaf program leaf other → cost ≤ℚ cost_of program other

-- a ray is shown beside a point of a leaf, and from there the cost falls along it without end
pub record IsRayOf (program : Program) (leaf : Leaf) (point ray : List ℚ) : Type 0 where
  pub is_point : IsPointOfLeaf program leaf point
  pub shown : IsShownRay program point ray
  pub falls : FallsWithoutEnd program point ray

-- what an answer says of a leaf
abbrev pub IsLeafAnswer : Program → Leaf → LeafAnswer → Type 0
IsLeafAnswer program leaf (Best point cost) = IsBest program leaf point.items cost
IsLeafAnswer program leaf NoPoint = (point : List ℚ) → ¬ IsPointOfLeaf program leaf point
IsLeafAnswer program leaf (HasRay point ray) = IsRayOf program leaf point.items ray.items
IsLeafAnswer program leaf (Wide found) = wide_leaf.IsWideBy (decided program leaf.on) leaf.values (shown_as found)

-- ---- the values of a leaf, in a program in which the choices are made

-- the same of values
pub record IsBestValues (program : Program) (leaf point : List ℚ) (cost : ℚ) : Type 0 where
  pub is_point : IsPointOf program leaf point
  pub found : verdict_of program point ≡ Feasible cost
  pub cost_is : cost ≡ cost_of program point
  pub least : (other : List ℚ) → IsPointOf program leaf other → cost ≤ℚ cost_of program other

pub record IsRayOfValues (program : Program) (leaf point ray : List ℚ) : Type 0 where
  pub is_point : IsPointOf program leaf point
  pub shown : IsShownRay program point ray
  pub falls : FallsWithoutEnd program point ray

abbrev pub IsValuesAnswer : Program → List ℚ → LeafAnswer → Type 0
IsValuesAnswer program leaf (Best point cost) = IsBestValues program leaf point.items cost
IsValuesAnswer program leaf NoPoint = (point : List ℚ) → ¬ IsPointOf program leaf point
IsValuesAnswer program leaf (HasRay point ray) = IsRayOfValues program leaf point.items ray.items
IsValuesAnswer program leaf (Wide found) = wide_leaf.IsWideBy program leaf (shown_as found)

-- ---- ends of the leaf's program

-- these values are optimal in it
pub record IsOptimalThere (program : Program) (leaf others : List ℚ) : Type 0 where
  pub cost : ℚ
  pub optimal : IsOptimal (program_of_leaf program leaf) others cost

-- it ends in an optimum with these values
pub record EndsInOptimum (program : Program) (leaf others : List ℚ) : Type 0 where
  pub certificate : Certificate
  pub cost : ℚ
  pub is_answer : whole_answer (program_of_leaf program leaf) ≡ Optimal others certificate cost

-- it ends in a ray from these values
pub record EndsInRay (program : Program) (leaf others direction : List ℚ) : Type 0 where
  pub is_answer : whole_answer (program_of_leaf program leaf) ≡ Unbounded others direction

-- a linear program ends out of range after so many moves
pub record EndsOutOfRange (linear : LinearProgram) (number : ℕ) : Type 0 where
  pub moves : List Move
  pub count : length moves ≡ number
  pub is_answer : whole_answer linear ≡ OutOfRange moves

-- it is said to be out of range at a value of its first state, or after as many moves
abbrev pub IsWideAnswer : LinearProgram → LeafAnswer → Type 0
IsWideAnswer linear (Best point cost) = ⊥
IsWideAnswer linear NoPoint = ⊥
IsWideAnswer linear (HasRay point ray) = ⊥
IsWideAnswer linear (Wide (shown.Place place)) = wide_leaf.FirstValueOverflows linear (place_of place)
IsWideAnswer linear (Wide (shown.Moves number)) = wide_leaf.MovesOverflow linear number

-- the row that overflows along a ray; or that none does
abbrev pub IsFirstAlong : List Row → List ℚ → Place → Type 0
IsFirstAlong rows ray (AtRow number) = RowOverflows rows ray number
IsFirstAlong rows ray Cost = (number : ℕ) → ¬ RowOverflows rows ray number
