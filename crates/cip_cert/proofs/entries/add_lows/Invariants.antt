use Rattle.std.proofs.Common.{◌≡◌, ◌+◌, length, drop}
use Rattle.cip_cert.specs.Checks.{add_lows}
use Rattle.cip_cert.proofs.entries.add_lows.Given as goal

abbrev pub invariant-loop-at : goal.invariant-loop-at
invariant-loop-at l = record {
  steps : add_lows l.bounds (l.first + l.at) (drop l.at l.multiples) (record { coefficients = l.row.entries; least = l.least }) ≡ add_lows l.bounds l.first l.multiples (record { coefficients = l.fn.row.entries; least = l.fn.start });
  columns : length l.row.entries ≡ length l.fn.row.entries;
}
