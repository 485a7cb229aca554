use Rattle.std.proofs.Common.{◌≡◌, ℕ, ◌<◌, false}
use Rattle.cip_node_rules.specs.OpenChoices.{is_unallowed}
use Rattle.cip_node_rules.proofs.choices.unallowed_column.Given as goal

abbrev pub invariant-loop-column : goal.invariant-loop-column
invariant-loop-column l = (k : ℕ) → k < l.column → is_unallowed l.choices l.point k ≡ false
