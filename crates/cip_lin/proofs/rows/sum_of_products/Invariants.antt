use Rattle.std.proofs.Common.{◌≡◌, drop}
use Rattle.cip_frac.specs.Rational.{zeroℚ}
use Rattle.cip_lin.specs.RowSums.{activity_from}
use Rattle.cip_lin.proofs.rows.sum_of_products.Given as goal

abbrev pub invariant-loop-term : goal.invariant-loop-term
invariant-loop-term l = activity_from l.sum (drop l.term-index l.terms) l.point ≡ activity_from zeroℚ l.terms l.point
