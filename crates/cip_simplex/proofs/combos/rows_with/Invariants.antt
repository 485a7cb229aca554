use Rattle.std.proofs.Common.{◌≡◌, ◌+◌, map}
use Rattle.cip_problem.specs.Activity.{value_at}
use Rattle.cip_bland.specs.Tables.{each}
use Rattle.cip_bland.specs.EndAnswers.{any_multiple}
use Rattle.cip_simplex.specs.LpAnswers.{row_multiple}
use Rattle.cip_simplex.proofs.combos.rows_with.Given as goal

abbrev pub invariant-loop-r : goal.invariant-loop-r
invariant-loop-r l = l.rows.items ≡ map row_multiple (each l.r (λ r. any_multiple r (value_at l.multipliers (l.columns + r))))
