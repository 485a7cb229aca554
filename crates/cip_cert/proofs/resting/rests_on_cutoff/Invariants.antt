use Rattle.std.proofs.Common.{◌≡◌, drop}
use Rattle.cip_cert.specs.Resting.{rests_on_cutoff}
use Rattle.cip_cert.proofs.resting.rests_on_cutoff.Given as goal

abbrev pub invariant-loop-multiple : goal.invariant-loop-multiple
invariant-loop-multiple l = rests_on_cutoff l.pool (drop l.multiple-index l.combo.rows.items) ≡ rests_on_cutoff l.pool l.combo.rows.items
