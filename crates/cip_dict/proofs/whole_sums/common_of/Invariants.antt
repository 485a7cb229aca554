use Rattle.std.proofs.Common.{◌<◌}
use Rattle.cip_dict.proofs.whole_sums.common_of.Given as goal

abbrev pub invariant-loop-sum : goal.invariant-loop-sum
invariant-loop-sum l = 0 < l.g
