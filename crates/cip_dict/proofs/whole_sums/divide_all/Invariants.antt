use Rattle.std.proofs.Common.{◌≡◌, ℕ, ◌<◌, ◌*◌, take, ◌^◌}
use Rattle.cip_dict.specs.WholeLines.{over, AreBelow}
use Rattle.cip_dict.proofs.whole_sums.divide_all.Given as goal

abbrev pub invariant-loop-at : goal.invariant-loop-at
invariant-loop-at l = record {
  divided : (d : ℕ) → 0 < d → over d l.out.items ≡ over (d * l.g) (take l.at l.sums);
  small : AreBelow (2 ^ 42) l.out.items;
}
