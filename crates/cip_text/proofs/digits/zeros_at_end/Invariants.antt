use Rattle.std.proofs.Common.{◌≡◌, ◌+◌, ◌≤◌, length, take}
use Rattle.std.specs.List.{suffix_len}
use Rattle.cip_rational.specs.Numeral.{is_zero_digit}
use Rattle.cip_text.proofs.digits.zeros_at_end.Given as goal

abbrev pub invariant-loop-kept : goal.invariant-loop-kept
invariant-loop-kept l = record {
  within : l.kept ≤ length l.digits;
  zeros : l.kept + suffix_len is_zero_digit l.digits ≡ length l.digits + suffix_len is_zero_digit (take l.kept l.digits);
}

abbrev pub decreases-loop-kept : goal.decreases-loop-kept
decreases-loop-kept l = l.kept
