use Rattle.std.proofs.Common.{◌≡◌, take, ◌^◌}
use Rattle.cip_dict.specs.WholeLines.{over, AreBelow}
use Rattle.cip_dict.proofs.settle.settle_entries.Given as goal

abbrev pub invariant-loop-at : goal.invariant-loop-at
invariant-loop-at l = record {
  written : over l.below l.out.items ≡ take l.at l.entries;
  small : AreBelow (2 ^ 42) l.out.items;
}
