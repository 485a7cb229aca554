use Rattle.std.proofs.Common.{◌≡◌, length, drop}
use Rattle.cip_cert.specs.Checks.{add_terms}
use Rattle.cip_cert.proofs.parts.add_terms.Given as goal

abbrev pub invariant-loop-term : goal.invariant-loop-term
invariant-loop-term l = record {
  steps : add_terms l.entry l.factor (drop l.term-index l.terms) l.row.entries ≡ add_terms l.entry l.factor l.terms l.fn.row.entries;
  columns : length l.row.entries ≡ length l.fn.row.entries;
}
