-- What the Lagrangian bound says of the points of a program.
use Rattle.std.specs.Prelude.{List}
use Rattle.cip_rational.specs.Rational.{ℚ, ◌≤ℚ◌}
use Rattle.cip_problem.specs.Program.{Sides, Program}
use Rattle.cip_problem.specs.Box.{IsInBox}
use Rattle.cip_problem.specs.Points.{IsFeasible, cost_of}
use Rattle.cip_lagrange.specs.declared.answers.TreeBound.{TreeBound}
use Rattle.cip_lagrange.specs.declared.answers.TreeBound.TheVariants.{Finite, NoPoint}

-- no feasible point in the box costs less; or there is none
abbrev pub LagrangeFollows : Program → List Sides → TreeBound → Type 0
LagrangeFollows program box (Finite bound) =
    (point : List ℚ) → IsFeasible program point → IsInBox box point → bound ≤ℚ cost_of program point
LagrangeFollows program box NoPoint = (point : List ℚ) → IsFeasible program point → ¬ IsInBox box point
