use Rattle.cip_rational.proofs.Rational.Order.{≤ℚ_of_lt}
use Rattle.cip_problem.specs.Points.{IsSatisfied}
use Rattle.cip_problem.proofs.Improving.{holds_inside}
use Rattle.cip_problem.proofs.Implied.{own_valid}
use Rattle.cip_problem.proofs.Rows.{cutoff_satisfied, cutoff_holds}
use Rattle.cip_problem.proofs.cuts.rows_are_valid.Goals as goal

pub returns : goal.returns
returns c = record {
  own = own_valid;
  kept = λ program held box kept e h. holds_inside program held box kept.scope (IsSatisfied kept.row) e h;
  in_scope = λ program held kept point h i w. h point i w;
  cutoff = λ program cost box point i w. cutoff_satisfied program cost point (≤ℚ_of_lt i.cheaper);
  cutoff_means = λ program cost point. (cutoff_holds program cost point, cutoff_satisfied program cost point);
}
