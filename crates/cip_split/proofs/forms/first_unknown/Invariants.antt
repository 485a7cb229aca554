use Rattle.std.proofs.Common.{◌≡◌, drop}
use Rattle.cip_split.specs.SplitChecks.{first_unknown}
use Rattle.cip_split.proofs.forms.first_unknown.Given as goal

abbrev pub invariant-loop-term : goal.invariant-loop-term
invariant-loop-term l = first_unknown l.columns (drop l.term-index l.form) ≡ first_unknown l.columns l.form
