use Rattle.std.proofs.Common.{◌≡◌, ◌-◌, ◌≤◌, map, take}
use Rattle.std.specs.Int.Digits.{number_from_digits_after}
use Rattle.cip_rational.specs.Range.{largest}
use Rattle.cip_text.proofs.digits.grow.Given as goal

abbrev pub invariant-loop-digit : goal.invariant-loop-digit
invariant-loop-digit l = record {
  small : l.value ≤ largest;
  so_far : l.value ≡ number_from_digits_after 10 l.start (map (λ byte. byte - 48) (take l.digit-index l.digits));
}
