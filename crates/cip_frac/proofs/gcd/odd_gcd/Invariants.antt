use Rattle.std.proofs.Common.{◌≡◌, ℕ, ◌+◌, ◌%◌}
use Rattle.std.specs.Int.{IsGcd}
use Rattle.cip_frac.proofs.gcd.odd_gcd.Given as goal

abbrev pub invariant-loop-x : goal.invariant-loop-x
invariant-loop-x l = record { first_odd : l.x % 2 ≡ 1; second_odd : l.y % 2 ≡ 1; same : (g : ℕ) → IsGcd l.x l.y g → IsGcd l.fn.a l.fn.b g }

abbrev pub decreases-loop-x : goal.decreases-loop-x
decreases-loop-x l = l.x + l.y
