use Rattle.std.proofs.Common.{◌≡◌, ◌++◌, drop}
use Rattle.cip_presolve.specs.EntriesLeft.{old_numbers}
use Rattle.cip_presolve.proofs.left_lists.numbers_kept.Given as goal

abbrev pub invariant-loop-at : goal.invariant-loop-at
invariant-loop-at l = l.kept.items ++ old_numbers l.at (drop l.at l.gone) ≡ old_numbers 0 l.gone
