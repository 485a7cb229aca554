use Rattle.std.proofs.Common.{◌≡◌, ◌++◌, ◌-◌}
use Rattle.cip_presolve.specs.PresolvedPrograms.{counted}
use Rattle.cip_presolve.proofs.left_programs.numbers.Given as goal

abbrev pub invariant-loop-column : goal.invariant-loop-column
invariant-loop-column l = l.numbers.items ++ counted l.column (l.columns - l.column) ≡ counted 0 l.columns
