use Rattle.std.proofs.Common.{◌≡◌, ◌++◌, drop}
use Rattle.cip_presolve.specs.RowReading.{free_terms}
use Rattle.cip_presolve.proofs.fixed_columns.append_free.Given as goal

abbrev pub invariant-loop-term : goal.invariant-loop-term
invariant-loop-term l =
    (record l.row { terms = l.row.terms ++ free_terms (drop l.term-index l.terms) l.bounds }
    ≡ record l.initial.row { terms = l.initial.row.terms ++ free_terms l.terms l.bounds })
