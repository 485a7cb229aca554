use Rattle.std.proofs.Common.{length, take, All}
use Rattle.cip_problem.specs.Activity.{StandsBelow}
use Rattle.cip_problem.specs.Program.{Row}
use Rattle.cip_simplex.proofs.lp.Lp.is_solvable.Given as goal

abbrev pub invariant-loop-row : goal.invariant-loop-row
invariant-loop-row l = All (λ (row : Row). StandsBelow (length l.bounds) row.terms) (take l.row-index l.rows)
