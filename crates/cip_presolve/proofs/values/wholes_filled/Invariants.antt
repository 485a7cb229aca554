use Rattle.std.proofs.Common.{◌≡◌, ◌++◌, drop}
use Rattle.cip_presolve.specs.Leaf.{at_wholes}
use Rattle.cip_presolve.specs.Forms.{filled}
use Rattle.cip_presolve.proofs.values.wholes_filled.Given as goal

abbrev pub invariant-loop-column : goal.invariant-loop-column
invariant-loop-column l =
    l.all.items ++ at_wholes (drop l.column l.whole) (filled (drop l.column l.forms) l.point (drop l.column l.point))
    ≡ at_wholes l.whole (filled l.forms l.point l.point)
