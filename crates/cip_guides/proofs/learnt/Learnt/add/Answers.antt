use Rattle.std.proofs.lemmas.Grind.{common_steps}
use Rattle.std.proofs.Common.{arith}
use Rattle.cip_guides.proofs.learnt.Learnt.add.Goals as goal

pub part_some-self : goal.part_some-self
part_some-self c = grind (arith, common_steps)

pub part_none-self : goal.part_none-self
part_none-self c = grind (arith, common_steps)
