use Rattle.std.proofs.Common.{◌≡◌, ◌++◌, drop}
use Rattle.cip_presolve.specs.Places.{whole_and_left}
use Rattle.cip_presolve.proofs.places.whole_and_left.Given as goal

abbrev pub invariant-loop-column : goal.invariant-loop-column
invariant-loop-column l = l.left.items ++ whole_and_left (drop l.column l.forms) (drop l.column l.whole) ≡ whole_and_left l.forms l.whole
