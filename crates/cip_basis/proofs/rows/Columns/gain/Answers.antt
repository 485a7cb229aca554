use Rattle.std.proofs.lemmas.Grind.{common_steps}
use Rattle.std.proofs.Common.{arith}
use Rattle.cip_basis.proofs.rows.Columns.gain.Goals as goal

pub part_some-self-in-Some-get_mut-2 : goal.part_some-self-in-Some-get_mut-2
part_some-self-in-Some-get_mut-2 c = grind (arith, common_steps)

pub part_some-self : goal.part_some-self
part_some-self c = grind (arith, common_steps)

pub part_none-self-in-None : goal.part_none-self-in-None
part_none-self-in-None c = grind (arith, common_steps)

pub part_none-self : goal.part_none-self
part_none-self c = grind (arith, common_steps)
