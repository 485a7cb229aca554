use Rattle.std.proofs.Common.{◌≡◌, cond, map}
use Rattle.cip_problem.specs.Activity.{value_at}
use Rattle.cip_bland.specs.Tables.{each}
use Rattle.cip_bland.specs.EndAnswers.{low_multiple, high_multiple}
use Rattle.cip_simplex.specs.LpAnswers.{column_multiple}
use Rattle.cip_simplex.proofs.combos.columns_with.Given as goal

abbrev pub invariant-loop-k : goal.invariant-loop-k
invariant-loop-k l =
    l.listed.items ≡ map column_multiple (each l.k (λ k. cond l.above (low_multiple k (value_at l.multipliers k)) (high_multiple k (value_at l.multipliers k))))
