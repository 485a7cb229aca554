use Rattle.std.proofs.Common.{ℕ, ◌<◌, ◌≤◌, ◌-◌, length, get_or}
use Rattle.cip_cert.specs.declared.rows.PoolRow.{PoolRow}
use Rattle.cip_cert.proofs.lookup.place_from.Given as goal

abbrev pub invariant-loop-low : goal.invariant-loop-low
invariant-loop-low l = record {
  order : l.low ≤ l.high;
  within : l.high ≤ length l.pool;
  before : (k : ℕ) (default : PoolRow) → k < l.low → (get_or l.pool k default).id < l.id;
  after : (k : ℕ) (default : PoolRow) → l.high ≤ k → k < length l.pool → l.id ≤ (get_or l.pool k default).id;
}

abbrev pub decreases-loop-low : goal.decreases-loop-low
decreases-loop-low l = l.high - l.low
