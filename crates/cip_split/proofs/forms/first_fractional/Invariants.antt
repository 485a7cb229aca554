use Rattle.std.proofs.Common.{◌≡◌, drop}
use Rattle.cip_split.specs.SplitChecks.{first_fractional}
use Rattle.cip_split.proofs.forms.first_fractional.Given as goal

abbrev pub invariant-loop-term : goal.invariant-loop-term
invariant-loop-term l = first_fractional l.whole (drop l.term-index l.form) ≡ first_fractional l.whole l.form
