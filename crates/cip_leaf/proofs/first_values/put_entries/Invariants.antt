use Rattle.std.proofs.Common.{◌≡◌, ◌++◌, map, take}
use Rattle.cip_simplex.specs.LpEntries.{entry_of}
use Rattle.cip_leaf.proofs.first_values.put_entries.Given as goal

abbrev pub invariant-loop-term : goal.invariant-loop-term
invariant-loop-term l = l.entries.items ≡ l.fn.entries.items ++ map (entry_of l.r) (take l.term-index l.terms)
