-- Reduced programs: a program that may be solved in place of another, and how its points come back (presolve and
-- postsolve).
use Rattle.std.specs.Prelude.{◌≡◌, List}
use Rattle.std.specs.List.{AllByRecursion}
use Rattle.cip_rational.specs.Rational.{ℚ, ◌≤ℚ◌}
use Rattle.cip_problem.specs.Program.{Program}
use Rattle.cip_problem.specs.Box.{IsInBox}
use Rattle.cip_problem.specs.Points.{IsSatisfied, IsFeasible, cost_of}

-- a point keeps all bounds and rows, whatever the values of its whole columns are
pub record IsRelaxed (program : Program) (point : List ℚ) : Type 0 where
  pub within : IsInBox program.bounds point
  pub rows : AllByRecursion (λ row. IsSatisfied row point) program.rows

-- a feasible point costs no more than this
pub record HasNoDearer (program : Program) (cost : ℚ) : Type 0 where
  pub point : List ℚ
  pub feasible : IsFeasible program point
  pub no_dearer : cost_of program point ≤ℚ cost

-- a program may be solved in place of another: postsolve takes each of its feasible points to a feasible point of the
-- other of equal cost, and each that keeps bounds and rows to one that does; and for each feasible point of the other
-- it has one that costs no more
pub record IsReduction (program reduced : Program) (postsolve : List ℚ → List ℚ) : Type 0 where
  pub feasible : (point : List ℚ) → IsFeasible reduced point → IsFeasible program (postsolve point)
  pub relaxed : (point : List ℚ) → IsRelaxed reduced point → IsRelaxed program (postsolve point)
  pub cost : (point : List ℚ) → IsRelaxed reduced point → cost_of program (postsolve point) ≡ cost_of reduced point
  pub none_lost : (point : List ℚ) → IsFeasible program point → HasNoDearer reduced (cost_of program point)
