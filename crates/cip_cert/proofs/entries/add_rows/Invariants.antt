use Rattle.std.proofs.Common.{◌≡◌, length, drop}
use Rattle.cip_cert.specs.Lent.{lent_of}
use Rattle.cip_cert.specs.Checks.{add_rows}
use Rattle.cip_cert.proofs.entries.add_rows.Given as goal

abbrev pub invariant-loop-at : goal.invariant-loop-at
invariant-loop-at l = record {
  steps : add_rows (lent_of l.rows) l.bounds l.at (drop l.at l.multiples) (record { coefficients = l.row.entries; least = l.least }) ≡ add_rows (lent_of l.rows) l.bounds 0 l.multiples (record { coefficients = l.fn.row.entries; least = l.fn.start });
  columns : length l.row.entries ≡ length l.fn.row.entries;
}
