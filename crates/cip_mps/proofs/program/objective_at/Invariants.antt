use Rattle.std.proofs.Common.{◌≡◌, drop}
use Rattle.cip_text_rules.specs.MpsState.{objective_row}
use Rattle.cip_mps.proofs.program.objective_at.Given as goal

abbrev pub invariant-loop-number : goal.invariant-loop-number
invariant-loop-number l = objective_row l.rows ≡ objective_row (drop l.number l.rows)
