use Rattle.std.proofs.Common.{◌≡◌, ◌++◌, ◌≤◌, drop}
use Rattle.cip_presolve.specs.EntriesLeft.{new_numbers}
use Rattle.cip_presolve.proofs.left_lists.numbers_left.Given as goal

abbrev pub invariant-loop-at : goal.invariant-loop-at
invariant-loop-at l = record {
  rest : l.numbers.items ++ new_numbers l.count (drop l.at l.gone) ≡ new_numbers 0 l.gone;
  few : l.count ≤ l.at;
}
