use Rattle.std.proofs.Common.{◌≡◌, ℕ, ◌<◌, true}
use Rattle.cip_problem.specs.Box.{sides_at}
use Rattle.cip_problem.specs.Wholes.{HasWhole}
use Rattle.cip_node_rules.specs.OpenColumns.{is_whole_at}
use Rattle.cip_node_rules.proofs.columns.lacking_column.Given as goal

abbrev pub invariant-loop-column : goal.invariant-loop-column
invariant-loop-column l = (k : ℕ) → k < l.column → is_whole_at l.whole k ≡ true → HasWhole (sides_at l.bounds k)
