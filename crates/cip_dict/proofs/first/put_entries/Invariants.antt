use Rattle.std.proofs.Common.{◌≡◌, ℕ, ◌-◌, ◌<◌, ◌≤◌, length, drop}
use Rattle.cip_problem.specs.Activity.{value_at}
use Rattle.cip_dict.specs.Row.{row_in}
use Rattle.cip_dict.specs.Entries.{entry_from}
use Rattle.cip_dict.proofs.first.put_entries.Given as goal

abbrev pub invariant-loop-entry : goal.invariant-loop-entry
invariant-loop-entry l = record {
  put : (v k : ℕ) → l.columns ≤ v → v < length l.initial.rows → entry_from (value_at (row_in l.rows v) k) (drop l.entry-index l.entries) (v - l.columns) k ≡ entry_from (value_at (row_in l.initial.rows v) k) l.entries (v - l.columns) k;
  rest : (v : ℕ) → v < l.columns → row_in l.rows v ≡ row_in l.initial.rows v;
  count : length l.rows ≡ length l.initial.rows;
  long : (v : ℕ) → length (row_in l.rows v) ≡ length (row_in l.initial.rows v);
}
