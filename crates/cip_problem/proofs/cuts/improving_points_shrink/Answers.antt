use Rattle.cip_rational.specs.Rational.{◌≤ℚ◌}
use Rattle.cip_problem.specs.Points.{IsSatisfied, cost_of}
use Rattle.cip_problem.specs.Aggregate.{Holds}
use Rattle.cip_problem.proofs.Improving.{fewer, holds_later, holds_inside}
use Rattle.cip_problem.proofs.cuts.improving_points_shrink.Goals as goal

pub returns : goal.returns
returns c = record {
  fewer = fewer;
  row_later = λ program now before box row. holds_later program now before box (IsSatisfied row);
  valid_later = λ program now before box row. holds_later program now before box (Holds row);
  bound_later = λ program now before box b. holds_later program now before box (λ point. b ≤ℚ cost_of program point);
  row_inside = λ program held inner outer row. holds_inside program held inner outer (IsSatisfied row);
  valid_inside = λ program held inner outer row. holds_inside program held inner outer (Holds row);
  bound_inside = λ program held inner outer b. holds_inside program held inner outer (λ point. b ≤ℚ cost_of program point);
}
