use Rattle.std.proofs.Common.{◌≡◌, drop}
use Rattle.cip_split.specs.SplitChecks.{first_out_of_order}
use Rattle.cip_split.proofs.forms.first_out_of_order.Given as goal

abbrev pub invariant-loop-at : goal.invariant-loop-at
invariant-loop-at l = first_out_of_order l.at l.next (drop l.at l.form) ≡ first_out_of_order 0 0 l.form
