use Rattle.std.proofs.Common.{◌≡◌, take}
use Rattle.cip_search.specs.LeafProgram.{continuous_terms}
use Rattle.cip_leaf.proofs.rows.put_terms.Given as goal

abbrev pub invariant-loop-term : goal.invariant-loop-term
invariant-loop-term l = l.row ≡ record l.fn.row { terms = continuous_terms l.whole (take l.term-index l.terms) }
