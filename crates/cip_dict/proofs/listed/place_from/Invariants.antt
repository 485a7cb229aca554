use Rattle.std.proofs.Common.{ℕ, ◌<◌, ◌≤◌, ◌-◌, length, get_or}
use Rattle.cip_dict.proofs.listed.place_from.Given as goal

abbrev pub invariant-loop-low : goal.invariant-loop-low
invariant-loop-low g l = record {
  order : l.low ≤ l.high;
  within : l.high ≤ length l.entries;
  before : (a : ℕ) (d : ℕ × g.row.T.Denot) → a < l.low → (get_or l.entries a d).0 < l.k;
  after : (a : ℕ) (d : ℕ × g.row.T.Denot) → l.high ≤ a → a < length l.entries → l.k ≤ (get_or l.entries a d).0;
}

abbrev pub decreases-loop-low : goal.decreases-loop-low
decreases-loop-low g l = l.high - l.low
