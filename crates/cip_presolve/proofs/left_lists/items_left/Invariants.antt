use Rattle.std.proofs.Common.{◌≡◌, ◌++◌, drop}
use Rattle.cip_presolve.specs.EntriesLeft.{entries_left}
use Rattle.cip_presolve.proofs.left_lists.items_left.Given as goal

abbrev pub invariant-loop-at : goal.invariant-loop-at
invariant-loop-at g l = l.left.items ++ entries_left (drop l.at l.gone) (drop l.at l.items) ≡ entries_left l.gone l.items
