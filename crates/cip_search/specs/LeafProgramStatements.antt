-- The laws, each as one statement: the functions of `src/lib.rt` have them as contracts.
use Rattle.std.specs.Prelude.{◌≡◌, ◌↔◌, ℕ, true, All, List, []}
use Rattle.cip_rational.specs.Rational.{ℚ, ◌+ℚ◌}
use Rattle.cip_rational.specs.Sums.{dot}
use Rattle.cip_problem.specs.Program.{Program}
use Rattle.cip_problem.specs.WellFormed.{IsWellFormed}
use Rattle.cip_problem.specs.Points.{cost_of}
use Rattle.cip_problem.specs.LinearProgram.{IsProper, IsPoint}
use Rattle.cip_search.specs.Leaf.{IsLeaf, IsPointOf}
use Rattle.cip_search.specs.Wide.{Place, IsWideAt}
use Rattle.cip_search.specs.LeafProgram.{at_continuous, merged, program_of_leaf}
use Rattle.cip_search.specs.WideLeaf.{AfterMoves, AtPlace, IsWideBy}

-- a point of a leaf is one that its program has: its continuous columns, beside the leaf's values
pub record IsTold (program : Program) (leaf point : List ℚ) : Type 0 where
  pub same : point ≡ merged program.integral leaf (at_continuous program.integral point)
  pub is_point : IsPoint (program_of_leaf program leaf) (at_continuous program.integral point)

-- where a program has no choices, the points of a leaf are those of its program, beside the leaf's values, and their
-- costs are those that they have there, from the cost of the leaf's values on
pub record LeavesHavePrograms : Type 0 where
  pub proper : (program : Program) (leaf : List ℚ) → IsWellFormed program → IsProper (program_of_leaf program leaf)
  pub points : (program : Program) (leaf others : List ℚ)
      → IsWellFormed program → program.choices ≡ [] → IsLeaf program leaf
      → IsPoint (program_of_leaf program leaf) others
      → IsPointOf program leaf (merged program.integral leaf others)
  pub all : (program : Program) (leaf point : List ℚ)
      → IsWellFormed program → IsPointOf program leaf point → IsTold program leaf point
  pub cost : (program : Program) (leaf others : List ℚ)
      → cost_of program (merged program.integral leaf others)
      ≡ cost_of program (merged program.integral leaf []) +ℚ dot (program_of_leaf program leaf).costs others

-- where no column is continuous, a leaf is wide where a fixed part or what a side leaves of it overflows, and not by
-- moves
pub record WholeLeavesAgree : Type 0 where
  pub place : (program : Program) (leaf : List ℚ) (place : Place)
      → IsWellFormed program → All (λ whole. whole ≡ true) program.integral → IsLeaf program leaf
      → IsWideBy program leaf (AtPlace place) ↔ IsWideAt program leaf place
  pub moves : (program : Program) (leaf : List ℚ) (number : ℕ)
      → IsWellFormed program → All (λ whole. whole ≡ true) program.integral
      → ¬ IsWideBy program leaf (AfterMoves number)
