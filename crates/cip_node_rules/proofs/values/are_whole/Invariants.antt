use Rattle.std.proofs.Common.{◌≡◌, ℕ, ◌<◌, true, false, get_or}
use Rattle.cip_rational.specs.Rational.{zeroℚ, IsWhole}
use Rattle.cip_node_rules.proofs.values.are_whole.Given as goal

abbrev pub invariant-loop-at : goal.invariant-loop-at
invariant-loop-at l = (k : ℕ) → k < l.at → get_or l.whole k false ≡ true → IsWhole (get_or l.point k zeroℚ)
