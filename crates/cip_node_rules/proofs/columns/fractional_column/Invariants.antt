use Rattle.std.proofs.Common.{◌≡◌, ℕ, ◌<◌, false}
use Rattle.cip_node_rules.specs.OpenColumns.{is_fractional_at}
use Rattle.cip_node_rules.proofs.columns.fractional_column.Given as goal

abbrev pub invariant-loop-column : goal.invariant-loop-column
invariant-loop-column l = (k : ℕ) → k < l.column → is_fractional_at l.whole l.bounds l.point k ≡ false
