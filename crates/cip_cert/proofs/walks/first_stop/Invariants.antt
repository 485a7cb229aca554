use Rattle.std.proofs.Common.{◌≡◌, ℕ, ◌<◌, false, length, get_or}
use Rattle.cip_cert.proofs.Steps.{stops_at}
use Rattle.cip_cert.proofs.walks.first_stop.Given as goal

abbrev pub invariant-loop-column : goal.invariant-loop-column
invariant-loop-column l = (j : ℕ) → j < l.column-index → get_or l.touched j 0 < length l.whole → stops_at l.whole l.entries (get_or l.touched j 0) ≡ false
