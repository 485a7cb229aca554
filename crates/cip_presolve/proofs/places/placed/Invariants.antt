use Rattle.std.proofs.Common.{◌≡◌, ◌++◌, ◌≤◌, drop}
use Rattle.cip_presolve.specs.WholeParts.{with_wholes}
use Rattle.cip_presolve.proofs.places.placed.Given as goal

abbrev pub invariant-loop-column : goal.invariant-loop-column
invariant-loop-column l = record {
  all : l.point.items ++ with_wholes (drop l.column l.takes) (drop l.at l.values) ≡ with_wholes l.takes l.values;
  few : l.at ≤ l.column;
}
