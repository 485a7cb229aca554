use Rattle.std.proofs.Common.{◌≡◌, ℕ, ◌<◌, ◌≤◌, length, drop, get_or}
use Rattle.cip_cert.specs.Checks.{rests_from}
use Rattle.cip_cert.proofs.walks.rests.Given as goal

abbrev pub invariant-loop-column : goal.invariant-loop-column
invariant-loop-column l = record {
  steps : rests_from l.named l.next l.sum (drop l.next l.entries) (drop l.next l.sides) ≡ rests_from l.named 0 l.fn.start l.entries l.sides;
  within : l.next ≤ length l.sides;
  passed : (j : ℕ) → j < l.column-index → get_or l.touched j 0 < length l.sides → get_or l.touched j 0 < l.next;
}
