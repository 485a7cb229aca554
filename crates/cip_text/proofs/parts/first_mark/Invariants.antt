use Rattle.std.proofs.Common.{◌≡◌, ℕ, ◌<◌, false, get_or}
use Rattle.cip_rational.specs.Numeral.{is_exponent_mark}
use Rattle.cip_text.proofs.parts.first_mark.Given as goal

abbrev pub invariant-loop-i : goal.invariant-loop-i
invariant-loop-i l = (k : ℕ) → k < l.i → is_exponent_mark (get_or l.bytes k 0) ≡ false
