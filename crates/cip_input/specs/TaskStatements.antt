-- The main laws, each as one statement: functions of `src/laws.rt` have them as contracts.
use Rattle.std.specs.Prelude.{◌≡◌, ℕ, ◌^◌, ◌≤◌, Some, replicate}
use Rattle.cip_rational.specs.Rational.{oneℚ}
use Rattle.cip_problem.specs.Points.{IsFeasible}
use Rattle.cip_problem.specs.Log.{root, leaf_count}
use Rattle.cip_problem.specs.WellFormed.{IsWellFormed}
use Rattle.cip_input.specs.Generated.{most_drawn, generated}

-- the point whose values are all 1 is feasible
abbrev pub OnesAreFeasible : Type 0
OnesAreFeasible =
    (seed columns rows : ℕ) → IsFeasible (generated seed columns rows) (replicate columns oneℚ)

-- the lists of such a program fit together
abbrev pub GeneratedAreFormed : Type 0
GeneratedAreFormed =
    (seed columns rows : ℕ) → columns ≤ most_drawn → rows ≤ most_drawn → IsWellFormed (generated seed columns rows)

-- there are 4 ^ columns whole assignments, four values for each column
abbrev pub LeavesAreCounted : Type 0
LeavesAreCounted =
    (seed columns rows : ℕ)
    → leaf_count (generated seed columns rows).integral (root (generated seed columns rows)) ≡ Some (4 ^ columns)
