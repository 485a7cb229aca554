use Rattle.std.proofs.Common.{◌≡◌, drop}
use Rattle.cip_frac.specs.Rational.{zeroℚ}
use Rattle.cip_lin.specs.RowSums.{least_from}
use Rattle.cip_lin.proofs.extremes.least_sum.Given as goal

abbrev pub invariant-loop-term : goal.invariant-loop-term
invariant-loop-term l = least_from l.sum (drop l.term-index l.terms) l.bounds ≡ least_from zeroℚ l.terms l.bounds
