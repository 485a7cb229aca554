use Rattle.std.proofs.Common.{◌≡◌, replicate}
use Rattle.cip_master.specs.FirstRows.{sum_row}
use Rattle.cip_master.proofs.first.sum_rows.Given as goal

abbrev pub invariant-loop-block : goal.invariant-loop-block
invariant-loop-block l = l.owns.items ≡ replicate l._block sum_row
