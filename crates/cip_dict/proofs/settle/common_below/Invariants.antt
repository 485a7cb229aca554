use Rattle.std.proofs.Common.{◌<◌, ◌^◌}
use Rattle.cip_dict.proofs.settle.common_below.Given as goal

abbrev pub invariant-loop-at : goal.invariant-loop-at
invariant-loop-at l = record { positive : 0 < l.below; small : l.below < 2 ^ 42 }
