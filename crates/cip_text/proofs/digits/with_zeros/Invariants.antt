use Rattle.std.proofs.Common.{◌≡◌, ◌*◌, ◌^◌, ◌≤◌}
use Rattle.cip_rational.specs.Range.{largest}
use Rattle.cip_text.proofs.digits.with_zeros.Given as goal

abbrev pub invariant-loop-done : goal.invariant-loop-done
invariant-loop-done l = record {
  small : l.raised ≤ largest;
  so_far : l.raised ≡ l.value * 10 ^ l.done;
}
