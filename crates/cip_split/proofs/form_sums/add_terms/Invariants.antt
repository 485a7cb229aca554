use Rattle.std.proofs.Common.{◌≡◌, length, drop}
use Rattle.cip_split.specs.SplitChecks.{form_added}
use Rattle.cip_split.proofs.form_sums.add_terms.Given as goal

abbrev pub invariant-loop-term : goal.invariant-loop-term
invariant-loop-term l = record {
  steps : form_added l.factor (drop l.term-index l.form) l.row.entries ≡ form_added l.factor l.form l.fn.row.entries;
  columns : length l.row.entries ≡ length l.fn.row.entries;
}
