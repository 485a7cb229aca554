use Rattle.std.proofs.Common.{ℕ, ◌<◌}
use Rattle.cip_model.specs.Meaning.{RowOverflows}
use Rattle.cip_leaf.proofs.leaves.first_along.Given as goal

abbrev pub invariant-loop-at : goal.invariant-loop-at
invariant-loop-at l = (k : ℕ) → k < l.at → ¬ RowOverflows l.rows l.ray k
