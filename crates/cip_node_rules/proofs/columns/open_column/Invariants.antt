use Rattle.std.proofs.Common.{◌≡◌, ℕ, ◌<◌, false}
use Rattle.cip_node_rules.specs.OpenColumns.{is_open_at}
use Rattle.cip_node_rules.proofs.columns.open_column.Given as goal

abbrev pub invariant-loop-column : goal.invariant-loop-column
invariant-loop-column l = (k : ℕ) → k < l.column → is_open_at l.whole l.bounds k ≡ false
