use Rattle.cip_rows.proofs.BuiltTerms.{RowBegun}
use Rattle.cip_rows.proofs.built.row_from.Given as goal

abbrev pub invariant-loop-at : goal.invariant-loop-at
invariant-loop-at l = RowBegun l.coefficients l.fn.least l.at l.row
