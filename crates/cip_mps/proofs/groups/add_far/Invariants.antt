use Rattle.std.proofs.Common.{◌≡◌, ◌++◌, drop, map}
use Rattle.cip_mps.specs.Entries.{numbers_of}
use Rattle.cip_mps.specs.GroupEntries.{far_entry}
use Rattle.cip_mps.proofs.groups.add_far.Given as goal

abbrev pub invariant-loop-number : goal.invariant-loop-number
invariant-loop-number l =
    l.numbers.items ++ numbers_of l.fn.row (map far_entry (drop l.number-index l.far)) ≡ l.fn.numbers.items ++ numbers_of l.fn.row (map far_entry l.far)
