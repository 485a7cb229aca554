use Rattle.std.proofs.Common.{◌≡◌, map, take}
use Rattle.std.specs.Prelude.{unwrap_or}
use Rattle.cip_rational.specs.Rational.{zeroℚ}
use Rattle.cip_input.proofs.point_lines.point_of.Given as goal

abbrev pub invariant-loop-value : goal.invariant-loop-value
invariant-loop-value l = l.point.items ≡ map (λ value. unwrap_or value zeroℚ) (take l.value-index l.values)
