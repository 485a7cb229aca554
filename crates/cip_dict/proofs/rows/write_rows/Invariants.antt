use Rattle.std.proofs.Common.{◌≡◌, ℕ, ◌<◌, ◌≤◌, None, false, length, get_or, []}
use Rattle.cip_problem.specs.Activity.{value_at}
use Rattle.cip_bland.specs.Tables.{each}
use Rattle.cip_bland.specs.Operations.{first_overflow}
use Rattle.cip_dict.specs.Row.{form_changes, form_operations_in, written_form, row_in, HasRows, HasSpelled}
use Rattle.cip_dict.proofs.rows.write_rows.Given as goal

abbrev pub invariant-loop-v : goal.invariant-loop-v
invariant-loop-v l = record {
  fits : first_overflow (each l.v (λ v. form_operations_in l.pivot.standing.now l.pivot.leaving l.pivot.entering l.pivot.inverse (value_at l.new) v (row_in l.rows v))) ≡ None;
  written : (m : ℕ) → m < l.v → get_or l.out m [] ≡ written_form l.pivot.standing.now l.pivot.leaving l.pivot.entering l.pivot.inverse (value_at l.new) m (row_in l.rows m) (row_in l.initial.out m);
  rest : (m : ℕ) → l.v ≤ m → get_or l.out m [] ≡ get_or l.initial.out m [];
  long : HasRows l.pivot.standing.now l.out;
  marked : (m : ℕ) → m < l.v → get_or l.changed m false ≡ form_changes l.pivot.standing.now l.pivot.leaving l.pivot.entering m (row_in l.rows m);
  changed_long : length l.changed ≡ length l.initial.changed;
  spelled : HasSpelled l.new l.scratch.entering;
}
