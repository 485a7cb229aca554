use Rattle.std.proofs.Common.{◌≡◌, true, All, take}
use Rattle.cip_rational.specs.Rational.{ℚ}
use Rattle.cip_rational.specs.Range.{fits_range}
use Rattle.cip_node.specs.LeafValues.{least_values}
use Rattle.cip_node.proofs.leaves.values_in.Given as goal

abbrev pub invariant-loop-at : goal.invariant-loop-at
invariant-loop-at l = record {
  least : l.values.items ≡ least_values (take l.at l.whole) (take l.at l.sides);
  in_range : All (λ (v : ℚ). fits_range v ≡ true) l.values.items;
}
