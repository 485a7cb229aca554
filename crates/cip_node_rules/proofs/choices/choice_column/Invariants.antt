use Rattle.std.proofs.Common.{◌≡◌, ℕ, ◌<◌, false}
use Rattle.cip_node_rules.specs.OpenChoices.{is_choice_open}
use Rattle.cip_node_rules.proofs.choices.choice_column.Given as goal

abbrev pub invariant-loop-column : goal.invariant-loop-column
invariant-loop-column l = (k : ℕ) → k < l.column → is_choice_open l.choices k ≡ false
