use Rattle.std.proofs.Common.{◌≡◌, ◌≤◌}
use Rattle.std.specs.Prelude.{vec_len}
use Rattle.std.specs.Vec.{vec_capacity}
use Rattle.cip_cert.proofs.Cleared.{TellsBelow}
use Rattle.cip_cert.proofs.sparse.scan.Given as goal

abbrev pub invariant-loop-at : goal.invariant-loop-at
invariant-loop-at l = record {
  tells : TellsBelow l.at l.entries l.touched.items;
  short : vec_len l.touched ≤ l.at;
  capacity : vec_capacity l.touched ≡ vec_capacity l.fn.touched;
}
