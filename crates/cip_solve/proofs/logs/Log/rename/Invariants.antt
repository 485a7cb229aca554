use Rattle.std.proofs.Common.{◌≡◌}
use Rattle.cip_solve.proofs.Renamed.{RenamedTo}
use Rattle.cip_solve.proofs.logs.Log.rename.Given as goal

abbrev pub invariant-loop-place : goal.invariant-loop-place
invariant-loop-place l = record {
  renamed : RenamedTo l.numbers l.fn.self.taken.items l.self.taken.items l.place;
  marks : l.self.marks ≡ l.fn.self.marks;
}
