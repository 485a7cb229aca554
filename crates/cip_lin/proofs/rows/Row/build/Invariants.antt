use Rattle.std.proofs.Common.{◌≡◌, take}
use Rattle.cip_problem.specs.RowTerms.{AreTermsTo}
use Rattle.cip_lin.proofs.rows.Row.build.Given as goal

abbrev pub invariant-loop-term : goal.invariant-loop-term
invariant-loop-term l = (l.row ≡ record { terms = take l.term-index l.terms; low = l.fn.low; high = l.fn.high }) × AreTermsTo l.term-index l.terms
