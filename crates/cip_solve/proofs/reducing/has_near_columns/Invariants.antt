use Rattle.std.proofs.Common.{◌≡◌, ℕ, ◌^◌, ◌<◌, true}
use Rattle.cip_problem.specs.Box.{sides_at}
use Rattle.cip_node_rules.specs.OpenColumns.{is_whole_at}
use Rattle.cip_node_rules.specs.SplitRules.{AreNear}
use Rattle.cip_solve.proofs.reducing.has_near_columns.Given as goal

abbrev pub invariant-loop-column : goal.invariant-loop-column
invariant-loop-column l = (k : ℕ) → k < l.column → is_whole_at l.program.integral k ≡ true → AreNear (2 ^ 100) (sides_at l.program.bounds k)
