use Rattle.std.proofs.Common.{◌≡◌, ℕ, ◌<◌, None, length}
use Rattle.cip_bland.specs.Tables.{each}
use Rattle.cip_bland.specs.Operations.{first_overflow}
use Rattle.cip_dict.specs.Values.{moved_in, moved_operations_in, taken_value}
use Rattle.cip_dict.proofs.values.write_moved.Given as goal

abbrev pub invariant-loop-v : goal.invariant-loop-v
invariant-loop-v l = record {
  fits : first_overflow (each l.v (moved_operations_in l.pivot.standing.now l.shift.rows.now l.pivot.entering l.shift.by l.shift.values.now)) ≡ None;
  written : (k : ℕ) → k < l.v → taken_value l.pivot.standing.now l.pivot.entering l.shift.values.now l.out k ≡ moved_in l.pivot.standing.now l.shift.rows.now l.pivot.entering l.shift.by l.shift.values.now k;
  long : length l.out ≡ length l.initial.out;
}
