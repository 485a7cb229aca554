use Rattle.std.proofs.lemmas.Grind.{common_steps}
use Rattle.std.proofs.Common.{arith}
use Rattle.cip_basis.proofs.mended_points.close_by.Goals as goal

pub div-requires : goal.div-requires
div-requires c = grind (arith, common_steps)

pub overflow_cast-column : goal.overflow_cast-column
overflow_cast-column c = grind (arith, common_steps)

pub get_mut-requires : goal.get_mut-requires
get_mut-requires c = grind (arith, common_steps)
