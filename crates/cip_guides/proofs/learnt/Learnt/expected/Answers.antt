use Rattle.std.proofs.lemmas.Grind.{common_steps}
use Rattle.std.proofs.Common.{arith}
use Rattle.cip_guides.proofs.learnt.Learnt.expected.Goals as goal

pub get-requires : goal.get-requires
get-requires c = grind (arith, common_steps)
