use Rattle.std.proofs.Common.{◌≡◌, drop}
use Rattle.cip_rational.specs.Rational.{zeroℚ}
use Rattle.cip_frac.specs.Outcomes.{dot_from}
use Rattle.cip_lagrange.specs.Numbers.{found}
use Rattle.cip_master.proofs.sums.numbers_sum.Given as goal

abbrev pub invariant-loop-at : goal.invariant-loop-at
invariant-loop-at l =
    dot_from l.sum (found l.form (drop l.at l.numbers)) (drop l.at l.values)
    ≡ dot_from zeroℚ (found l.form l.numbers) l.values
