use Rattle.std.proofs.lemmas.Grind.{common_steps}
use Rattle.std.proofs.Common.{arith}
use Rattle.cip_tighten.proofs.sums.write_sum.Goals as goal

pub get-mine-requires : goal.get-mine-requires
get-mine-requires c = grind (arith, common_steps)

pub get-other-requires : goal.get-other-requires
get-other-requires c = grind (arith, common_steps)
