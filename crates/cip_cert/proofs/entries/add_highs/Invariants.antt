use Rattle.std.proofs.Common.{◌≡◌, ◌+◌, length, drop}
use Rattle.cip_cert.specs.Checks.{add_highs}
use Rattle.cip_cert.proofs.entries.add_highs.Given as goal

abbrev pub invariant-loop-at : goal.invariant-loop-at
invariant-loop-at l = record {
  steps : add_highs l.bounds (l.first + l.at) (drop l.at l.multiples) (record { coefficients = l.row.entries; least = l.least }) ≡ add_highs l.bounds l.first l.multiples (record { coefficients = l.fn.row.entries; least = l.fn.start });
  columns : length l.row.entries ≡ length l.fn.row.entries;
}
