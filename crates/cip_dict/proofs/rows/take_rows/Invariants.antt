use Rattle.std.proofs.Common.{◌≡◌, ℕ, ◌<◌, ◌≤◌, get_or, []}
use Rattle.cip_dict.specs.Row.{taken_form, HasRows}
use Rattle.cip_dict.proofs.rows.take_rows.Given as goal

abbrev pub invariant-loop-v : goal.invariant-loop-v
invariant-loop-v l = record {
  taken : (m : ℕ) → m < l.v → get_or l.rows m [] ≡ taken_form l.standing l.i l.j l.initial.rows l.initial.other m;
  rest : (m : ℕ) → l.v ≤ m → get_or l.rows m [] ≡ get_or l.initial.rows m [];
  other_rest : (m : ℕ) → l.v ≤ m → get_or l.other m [] ≡ get_or l.initial.other m [];
  rows_long : HasRows l.standing l.rows;
  other_long : HasRows l.standing l.other;
}
