use Rattle.std.proofs.Common.{◌≡◌, ◌++◌, ◌≤◌, drop}
use Rattle.cip_leaf.specs.Building.{numbers_from}
use Rattle.cip_leaf.proofs.lists.new_numbers.Given as goal

abbrev pub invariant-loop-at : goal.invariant-loop-at
invariant-loop-at l = record {
  rest : l.numbers.items ++ numbers_from l.count (drop l.at l.whole) ≡ numbers_from 0 l.whole;
  few : l.count ≤ l.at;
}
