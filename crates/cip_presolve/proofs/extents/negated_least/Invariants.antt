use Rattle.std.proofs.Common.{◌≡◌, drop}
use Rattle.cip_rational.specs.Rational.{zeroℚ}
use Rattle.cip_lin.specs.RowSums.{least_from}
use Rattle.cip_presolve.specs.RowReading.{negated}
use Rattle.cip_presolve.proofs.extents.negated_least.Given as goal

abbrev pub invariant-loop-term : goal.invariant-loop-term
invariant-loop-term l = least_from l.sum (negated (drop l.term-index l.terms)) l.bounds ≡ least_from zeroℚ (negated l.terms) l.bounds
