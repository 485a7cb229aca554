use Rattle.std.proofs.Common.{◌≡◌, ◌≢◌, ℕ, ◌<◌, ◌≤◌, get_or}
use Rattle.cip_rational.specs.Rational.{zeroℚ}
use Rattle.cip_split.proofs.split_rows.least_difference.Given as goal

abbrev pub invariant-loop-column : goal.invariant-loop-column
invariant-loop-column l = record {
  below : l.least ≤ l.start;
  differs : l.least < l.start → get_or l.entries l.least zeroℚ ≢ get_or l.others l.least zeroℚ;
  agrees : (j : ℕ) → j < l.column-index → get_or l.touched j 0 < l.least → get_or l.entries (get_or l.touched j 0) zeroℚ ≡ get_or l.others (get_or l.touched j 0) zeroℚ;
}
