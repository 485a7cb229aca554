use Rattle.std.proofs.Common.{◌≡◌, ℕ, ◌<◌, ◌≤◌, get_or}
use Rattle.cip_rational.specs.Rational.{zeroℚ}
use Rattle.cip_dict.specs.Values.{taken_value}
use Rattle.cip_dict.proofs.values.take_values.Given as goal

abbrev pub invariant-loop-v : goal.invariant-loop-v
invariant-loop-v l = record {
  taken : (m : ℕ) → m < l.v → get_or l.values m zeroℚ ≡ taken_value l.standing l.j l.initial.values l.other m;
  rest : (m : ℕ) → l.v ≤ m → get_or l.values m zeroℚ ≡ get_or l.initial.values m zeroℚ;
}
