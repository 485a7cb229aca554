use Rattle.std.proofs.Common.{◌≡◌, ◌++◌, drop, map}
use Rattle.cip_mps.specs.Entries.{numbers_of}
use Rattle.cip_mps.specs.GroupEntries.{near_entry}
use Rattle.cip_mps.proofs.groups.near_numbers.Given as goal

abbrev pub invariant-loop-number : goal.invariant-loop-number
invariant-loop-number l =
    l.numbers.items ++ numbers_of l.fn.row (map near_entry (drop l.number-index l.near)) ≡ numbers_of l.fn.row (map near_entry l.near)
