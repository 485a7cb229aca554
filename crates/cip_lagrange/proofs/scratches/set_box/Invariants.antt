use Rattle.std.proofs.Common.{◌≡◌, length, take}
use Rattle.cip_lagrange.specs.Numbers.{found}
use Rattle.cip_lagrange.proofs.scratches.set_box.Given as goal

abbrev pub invariant-loop-at : goal.invariant-loop-at
invariant-loop-at l = record {
  set : take l.at l.own ≡ found l.bounds (take l.at l.numbers);
  long : length l.own ≡ length l.fn.own;
}
