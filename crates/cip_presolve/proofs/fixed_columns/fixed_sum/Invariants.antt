use Rattle.std.proofs.Common.{◌≡◌, drop}
use Rattle.cip_rational.specs.Rational.{zeroℚ}
use Rattle.cip_presolve.specs.RowReading.{fixed_from}
use Rattle.cip_presolve.proofs.fixed_columns.fixed_sum.Given as goal

abbrev pub invariant-loop-term : goal.invariant-loop-term
invariant-loop-term l = fixed_from l.sum (drop l.term-index l.terms) l.bounds ≡ fixed_from zeroℚ l.terms l.bounds
