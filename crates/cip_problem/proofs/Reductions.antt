-- Reductions carry bounds, and that there is no point.
use Rattle.std.proofs.Common.{List, refl, ◌∙◌}
use Rattle.cip_rational.specs.Rational.{ℚ}
use Rattle.cip_rational.proofs.Rational.Order.{≤ℚ_trans, ≤ℚ_refl}
use Rattle.cip_problem.specs.Program.{Program}
use Rattle.cip_problem.specs.Points.{IsFeasible, cost_of, IsLowerBound}
use Rattle.cip_problem.specs.Reduced.{HasNoDearer, IsReduction}

pub reduction_itself : (program : Program) → IsReduction program program (λ point. point)
reduction_itself program = record {
  feasible = λ point h. h;
  relaxed = λ point h. h;
  cost = λ point h. refl;
  none_lost = λ point h. record { point = point; feasible = h; no_dearer = ≤ℚ_refl (cost_of program point) };
}

pub reduction_bound : (program reduced : Program) (postsolve : List ℚ → List ℚ) (b : ℚ) → IsReduction program reduced postsolve → IsLowerBound reduced b → IsLowerBound program b
reduction_bound program reduced postsolve b r h point k =
    let f = r.none_lost point k in
    ≤ℚ_trans (h f.point f.feasible) f.no_dearer

pub reduction_no_point : (program reduced : Program) (postsolve : List ℚ → List ℚ) → IsReduction program reduced postsolve → ((point : List ℚ) → ¬ IsFeasible reduced point) → (point : List ℚ) → ¬ IsFeasible program point
reduction_no_point program reduced postsolve r h point k = let f = r.none_lost point k in h f.point f.feasible

chained : (first second third : Program) (post more : List ℚ → List ℚ) → IsReduction first second post → IsReduction second third more → (point : List ℚ) → IsFeasible first point → HasNoDearer third (cost_of first point)
chained first second third post more r s point h =
    let f = r.none_lost point h in
    let g = s.none_lost f.point f.feasible in
    record { point = g.point; feasible = g.feasible; no_dearer = ≤ℚ_trans g.no_dearer f.no_dearer }

pub reduction_chain : (first second third : Program) (post more : List ℚ → List ℚ) → IsReduction first second post → IsReduction second third more → IsReduction first third (λ point. post (more point))
reduction_chain first second third post more r s = record {
  feasible = λ point h. r.feasible (more point) (s.feasible point h);
  relaxed = λ point h. r.relaxed (more point) (s.relaxed point h);
  cost = λ point h. r.cost (more point) (s.relaxed point h) ∙ s.cost point h;
  none_lost = chained first second third post more r s;
}
