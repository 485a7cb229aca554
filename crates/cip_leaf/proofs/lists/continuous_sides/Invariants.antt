use Rattle.std.proofs.Common.{◌≡◌, ◌++◌, drop}
use Rattle.cip_search.specs.LeafProgram.{at_continuous}
use Rattle.cip_leaf.proofs.lists.continuous_sides.Given as goal

abbrev pub invariant-loop-at : goal.invariant-loop-at
invariant-loop-at l = l.bounds ++ at_continuous (drop l.at l.whole) (drop l.at l.sides) ≡ at_continuous l.whole l.sides
