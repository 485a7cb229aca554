use Rattle.std.proofs.Common.{◌≡◌, ℕ, ◌<◌, None, length}
use Rattle.cip_bland.specs.Tables.{each}
use Rattle.cip_bland.specs.Operations.{first_overflow}
use Rattle.cip_dict.specs.Values.{moved_in, flipped_operations_in, taken_value}
use Rattle.cip_dict.proofs.values.write_flipped.Given as goal

abbrev pub invariant-loop-v : goal.invariant-loop-v
invariant-loop-v l = record {
  fits : first_overflow (each l.v (flipped_operations_in l.standing l.shift.rows.now l.j l.shift.by l.shift.values.now)) ≡ None;
  written : (k : ℕ) → k < l.v → taken_value l.standing l.j l.shift.values.now l.out k ≡ moved_in l.standing l.shift.rows.now l.j l.shift.by l.shift.values.now k;
  long : length l.out ≡ length l.initial.out;
}
