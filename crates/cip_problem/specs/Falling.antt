-- Costs that fall without end along a ray.
use Rattle.std.specs.Prelude.{◌≡◌, List}
use Rattle.cip_rational.specs.Rational.{ℚ, ◌+ℚ◌, ◌*ℚ◌, zeroℚ, ◌≤ℚ◌, ◌<ℚ◌}
use Rattle.cip_rational.specs.Sums.{dot}
use Rattle.cip_problem.specs.Program.{Program}
use Rattle.cip_problem.specs.Points.{IsFeasible, cost_of}
use Rattle.cip_problem.specs.LinearProgram.{moved}

-- from a point of a program one may go any way along a ray, for feasible points, and the cost falls as one goes
pub record FallsWithoutEnd (program : Program) (point ray : List ℚ) : Type 0 where
  pub points : (far : ℚ) → zeroℚ ≤ℚ far → IsFeasible program (moved point far ray)
  pub cost : (far : ℚ) → cost_of program (moved point far ray) ≡ cost_of program point +ℚ far *ℚ dot program.costs ray
  pub falls : dot program.costs ray <ℚ zeroℚ
