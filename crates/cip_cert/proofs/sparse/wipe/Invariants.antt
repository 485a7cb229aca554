use Rattle.std.proofs.Common.{◌≡◌, length, drop}
use Rattle.cip_cert.proofs.Cleared.{Covers}
use Rattle.cip_cert.proofs.sparse.wipe.Given as goal

abbrev pub invariant-loop-column : goal.invariant-loop-column
invariant-loop-column l = record { covers : Covers l.entries (drop l.column-index l.touched); same : length l.entries ≡ length l.fn.entries }
